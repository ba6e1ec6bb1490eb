-- What a refusal means, and that it comes exactly there.
use Rattle.std.proofs.Common.{◌≡◌, ◌⊎◌, inl, inr, ℕ, ◌+◌, ◌-◌, ◌*◌, Bool, true, false, cond, eqb, leb, List, Some, None, Option, Ok, Err, Result, refl, sym, ◌∙◌, ap, subst, arith, eq-eqb, ne_eqb, le-leb, leb-true, eqb-true}
use Rattle.std.proofs.lemmas.Bool.{eqb-false}
use Rattle.byte_lists.specs.Content.{AreBytes, part}
use Rattle.byte_lists.specs.Sectors.{whole_sectors}
use Rattle.store_layout.specs.Limits.{Limits}
use Rattle.store_layout.specs.CommandFormat.{CommandFormat}
use Rattle.store_layout.specs.Group.{payload_sectors}
use Rattle.store_layout.specs.GroupReading.{JournalRefusal, BadHeader, BadRecord, Gap, PastEnd, refuse_unless, count_in, size_in, place_in, IsGroupHeader, IsSealHeader, is_group_header, is_seal_header, commands_in, are_zeros, Payload, Group, Seal, group_of, Kind, OfGroup, OfSeal, OfNone, header_kind, group_in, seal_in, by_kind, payload_at}
use Rattle.store_layout.specs.Journal.{HasGroupAfterGate, HasSeal}
use Rattle.store_layout.specs.JournalRefusals.{HasPayload, HasGroupHeader, HasSealHeader, HasPromisedRoom, payload_behind, IsRefusedAt}
use Rattle.store_layout.proofs.Inverse.{of_group, of_seal, payload_from}
use Rattle.store_layout.proofs.Groups.{group_header_true, group_header_from, seal_header_true, seal_header_from, payload_group, payload_seal}

-- the test that failed, or a later one
check_failed : {X : Type 0} (b : Bool) (refusal : JournalRefusal) (behind : Result X JournalRefusal) (e : JournalRefusal) → refuse_unless b refusal behind ≡ Err e
    → ((b ≡ false) × (e ≡ refusal)) ⊎ ((b ≡ true) × (behind ≡ Err e))
check_failed true refusal behind e is = inr (refl, is)
check_failed false refusal behind e is = inl (refl, cc)

-- neither a group nor a seal, by the tests
of_none : (a b : Bool) → cond a OfGroup (cond b OfSeal OfNone) ≡ OfNone → (a ≡ false) × (b ≡ false)
of_none true b is = cc
of_none false true is = cc
of_none false false is = (refl, refl)

not_true : (b : Bool) → b ≡ true → b ≡ false → ⊥
not_true b was isnt = cc

module _ {C : Type 0} (format : CommandFormat C) (limits : Limits) (bytes : List ℕ) (gate place : ℕ) where
  record_refused : (e : JournalRefusal) → payload_at format limits bytes gate place ≡ Err e → (commands : List C) → HasGroupAfterGate format limits bytes gate place commands → ⊥
  record_refused e is commands has = let read = payload_group format limits bytes gate place commands has in cc

  seal_refused : (e : JournalRefusal) → payload_at format limits bytes gate place ≡ Err e → HasSeal bytes gate place → ⊥
  seal_refused e is has = let read = payload_seal format limits bytes gate place has in cc

  group_of_refused : (found : Option (List C)) (size : ℕ) (e : JournalRefusal) → group_of found size ≡ Err e → e ≡ BadRecord
  group_of_refused None size e is = cc
  group_of_refused (Some commands) size e is = cc

  -- a refusal, by the kind of the header
  by_kind_refused : (kind : Kind) (e : JournalRefusal) → payload_at format limits bytes gate place ≡ Err e → HasPayload bytes gate → header_kind limits (payload_behind bytes gate) ≡ kind
      → by_kind {C = C} kind format limits (payload_behind bytes gate) gate place (whole_sectors bytes) ≡ Err e → IsRefusedAt e format limits bytes gate place
  by_kind_refused OfNone e whole room kind is =
      let none = of_none (is_group_header limits p) (is_seal_header p) kind in
      subst (λ (r : JournalRefusal). IsRefusedAt r format limits bytes gate place) here (
        room,
        (λ has. not_true (is_group_header limits p) (group_header_true limits p has.1) none.0),
        (λ has. not_true (is_seal_header p) (seal_header_true p has.1) none.1),
      )
    where
      p : List ℕ
      p = payload_behind bytes gate

      here : BadHeader ≡ e
      here = cc
  by_kind_refused OfSeal e whole room kind is =
      elim (check_failed {X = Payload C} (eqb (place_in p) place) (Gap place) (seal_in p) e is) [
        | inl gap ↦ subst (λ (r : JournalRefusal). IsRefusedAt r format limits bytes gate place) (sym gap.1) (refl, inr (room, header), eqb-false (place_in p) place gap.0)
        | inr there ↦ elim (check_failed {X = Payload C} (are_zeros (part 16 496 p)) BadRecord (Ok Seal) e there.1) [
          | inl bad ↦ subst (λ (r : JournalRefusal). IsRefusedAt r format limits bytes gate place) (sym bad.1)
              (eqb-true (place_in p) place there.0, inr ((room, header), seal_refused e whole))
          | inr read ↦ let never = read.1 in cc
        ]
      ]
    where
      p : List ℕ
      p = payload_behind bytes gate

      header : IsSealHeader p
      header = seal_header_from p (of_seal (is_group_header limits p) (is_seal_header p) kind)
  by_kind_refused OfGroup e whole room kind is =
      elim (check_failed {X = Payload C} (eqb (place_in p) place) (Gap place) (refuse_unless (leb (gate + 1 + payload_sectors (size_in p) + 2) (whole_sectors bytes)) PastEnd (group_in format limits p)) e is) [
        | inl gap ↦ subst (λ (r : JournalRefusal). IsRefusedAt r format limits bytes gate place) (sym gap.1) (refl, inl (room, header), eqb-false (place_in p) place gap.0)
        | inr there ↦ elim (check_failed {X = Payload C} (leb (gate + 1 + payload_sectors (size_in p) + 2) (whole_sectors bytes)) PastEnd (group_in format limits p) e there.1) [
          | inl past ↦ subst (λ (r : JournalRefusal). IsRefusedAt r format limits bytes gate place) (sym past.1)
              (inr ((room, header), eqb-true (place_in p) place there.0, λ fits. not_true _ (le-leb _ _ fits) past.0))
          | inr fits ↦ subst (λ (r : JournalRefusal). IsRefusedAt r format limits bytes gate place) (sym (bad fits.1))
              (eqb-true (place_in p) place there.0, inl ((room, header), leb-true _ _ fits.0, record_refused e whole))
        ]
      ]
    where
      p : List ℕ
      p = payload_behind bytes gate

      header : IsGroupHeader limits p
      header = group_header_from limits p (of_group (is_group_header limits p) (is_seal_header p) kind)

      bad : group_in format limits p ≡ Err e → e ≡ BadRecord
      bad refused = elim (check_failed {X = Payload C} (are_zeros (part (16 + size_in p) (512 * payload_sectors (size_in p) - (16 + size_in p)) p)) BadRecord
          (group_of (commands_in format limits (count_in p) (part 16 (size_in p) p)) (size_in p)) e refused) [
            | inl padding ↦ padding.1
            | inr records ↦ group_of_refused (commands_in format limits (count_in p) (part 16 (size_in p) p)) (size_in p) e records.1
          ]

  -- what a refusal means
  pub payload_refused : (e : JournalRefusal) → payload_at format limits bytes gate place ≡ Err e → IsRefusedAt e format limits bytes gate place
  payload_refused e is =
      elim (check_failed {X = Payload C} (leb (gate + 2) (whole_sectors bytes)) PastEnd (by_kind (header_kind limits p) format limits p gate place (whole_sectors bytes)) e is) [
        | inl past ↦ subst (λ (r : JournalRefusal). IsRefusedAt r format limits bytes gate place) (sym past.1) (inl (λ room. not_true _ (le-leb _ _ room) past.0))
        | inr room ↦ by_kind_refused (header_kind limits p) e is (leb-true _ _ room.0) refl room.1
      ]
    where
      p : List ℕ
      p = payload_behind bytes gate

-- a test that cannot be passed is false
false_if : (b : Bool) → (b ≡ true → ⊥) → b ≡ false
false_if true not_so = absurd (not_so refl)
false_if false not_so = refl

group_or_not : {C : Type 0} (b : Bool) (found : Option (List C)) (size : ℕ)
    → ((commands : List C) × (refuse_unless b BadRecord (group_of found size) ≡ Ok (Group commands size))) ⊎ (refuse_unless b BadRecord (group_of found size) ≡ Err BadRecord)
group_or_not false found size = inr refl
group_or_not true None size = inr refl
group_or_not true (Some commands) size = inl (commands, refl)

module _ {C : Type 0} (format : CommandFormat C) (limits : Limits) (bytes : List ℕ) (gate place : ℕ) where
  p : List ℕ
  p = payload_behind bytes gate

  -- after the header of a group, and of a seal
  at_group : HasGroupHeader limits bytes gate → payload_at format limits bytes gate place
      ≡ refuse_unless (eqb (place_in (payload_behind bytes gate)) place) (Gap place)
      (refuse_unless (leb (gate + 1 + payload_sectors (size_in (payload_behind bytes gate)) + 2) (whole_sectors bytes)) PastEnd (group_in format limits (payload_behind bytes gate)))
  unfolding p
  at_group has =
      ap (λ (b : Bool). refuse_unless b PastEnd (by_kind (header_kind limits p) format limits p gate place (whole_sectors bytes))) (le-leb _ _ has.0)
      ∙ ap (λ (b : Bool). by_kind (cond b OfGroup (cond (is_seal_header p) OfSeal OfNone)) format limits p gate place (whole_sectors bytes)) (group_header_true limits p has.1)

  at_seal : HasSealHeader bytes gate → payload_at format limits bytes gate place ≡ refuse_unless (eqb (place_in (payload_behind bytes gate)) place) (Gap place) (seal_in (payload_behind bytes gate))
  unfolding p
  at_seal has =
      ap (λ (b : Bool). refuse_unless b PastEnd (by_kind (header_kind limits p) format limits p gate place (whole_sectors bytes))) (le-leb _ _ has.0)
      ∙ ap (λ (b : Bool). by_kind (cond b OfGroup (cond (is_seal_header p) OfSeal OfNone)) format limits p gate place (whole_sectors bytes)) (false_if (is_group_header limits p) other)
      ∙ ap (λ (b : Bool). by_kind (cond b OfSeal OfNone) format limits p gate place (whole_sectors bytes)) (seal_header_true p has.1)
    where
      other : is_group_header limits p ≡ true → ⊥
      other is = omega (arith, (group_header_from limits p is).kind, has.1.kind)

  at_group_there : HasGroupHeader limits bytes gate → place_in (payload_behind bytes gate) ≡ place → HasPromisedRoom bytes gate
      → payload_at format limits bytes gate place ≡ group_in format limits (payload_behind bytes gate)
  unfolding p
  at_group_there has there room =
      at_group has
      ∙ ap (λ (b : Bool). refuse_unless b (Gap place) (refuse_unless (leb (gate + 1 + payload_sectors (size_in p) + 2) (whole_sectors bytes)) PastEnd (group_in format limits p))) (eq-eqb _ _ there)
      ∙ ap (λ (b : Bool). refuse_unless b PastEnd (group_in format limits p)) (le-leb _ _ room)

  at_seal_there : HasSealHeader bytes gate → place_in (payload_behind bytes gate) ≡ place → payload_at format limits bytes gate place ≡ seal_in (payload_behind bytes gate)
  unfolding p
  at_seal_there has there = at_seal has ∙ ap (λ (b : Bool). refuse_unless b (Gap place) (seal_in p)) (eq-eqb _ _ there)

  -- the refusal comes where its definition holds
  pub refused_payload : (e : JournalRefusal) → AreBytes bytes → IsRefusedAt e format limits bytes gate place → payload_at format limits bytes gate place ≡ Err e
  unfolding p
  refused_payload PastEnd each (inl none) =
      ap (λ (b : Bool). refuse_unless b PastEnd (by_kind (header_kind limits p) format limits p gate place (whole_sectors bytes))) (false_if _ (λ is. none (leb-true _ _ is)))
  refused_payload PastEnd each (inr past) =
      at_group past.0
      ∙ ap (λ (b : Bool). refuse_unless b (Gap place) (refuse_unless (leb (gate + 1 + payload_sectors (size_in p) + 2) (whole_sectors bytes)) PastEnd (group_in format limits p))) (eq-eqb _ _ past.1)
      ∙ ap (λ (b : Bool). refuse_unless b PastEnd (group_in format limits p)) (false_if _ (λ is. past.2 (leb-true _ _ is)))
  refused_payload BadHeader each bad =
      ap (λ (b : Bool). refuse_unless b PastEnd (by_kind (header_kind limits p) format limits p gate place (whole_sectors bytes))) (le-leb _ _ bad.0)
      ∙ ap (λ (b : Bool). by_kind (cond b OfGroup (cond (is_seal_header p) OfSeal OfNone)) format limits p gate place (whole_sectors bytes))
      (false_if (is_group_header limits p) (λ is. bad.1 (bad.0, group_header_from limits p is)))
      ∙ ap (λ (b : Bool). by_kind (cond b OfSeal OfNone) format limits p gate place (whole_sectors bytes)) (false_if (is_seal_header p) (λ is. bad.2 (bad.0, seal_header_from p is)))
  refused_payload (Gap expected) each gap = by_header gap.1
    where
      by_header : HasGroupHeader limits bytes gate ⊎ HasSealHeader bytes gate → payload_at format limits bytes gate place ≡ Err (Gap expected)
      by_header (inl has) =
          at_group has
          ∙ ap (λ (b : Bool). refuse_unless b (Gap place) (refuse_unless (leb (gate + 1 + payload_sectors (size_in p) + 2) (whole_sectors bytes)) PastEnd (group_in format limits p))) (ne_eqb _ _ gap.2)
          ∙ ap (λ (n : ℕ). let r : Result (Payload C) JournalRefusal = Err (Gap n) in r) (sym gap.0)
      by_header (inr has) =
          at_seal has
          ∙ ap (λ (b : Bool). refuse_unless b (Gap place) (seal_in p)) (ne_eqb _ _ gap.2)
          ∙ ap (λ (n : ℕ). let r : Result (Payload C) JournalRefusal = Err (Gap n) in r) (sym gap.0)
  refused_payload BadRecord each bad = by_header bad.1
    where
      sealed : HasSealHeader bytes gate → (HasSeal bytes gate place → ⊥) → (b : Bool) → are_zeros (part 16 496 p) ≡ b → payload_at format limits bytes gate place ≡ Err BadRecord
      sealed has none true zeros =
          let read : payload_at format limits bytes gate place ≡ Ok Seal = at_seal_there has bad.0 ∙ ap (λ (b : Bool). refuse_unless b BadRecord (Ok Seal)) zeros in
          absurd (none (payload_from format limits bytes gate place each Seal read))
      sealed has none false zeros = at_seal_there has bad.0 ∙ ap (λ (b : Bool). refuse_unless b BadRecord (Ok Seal)) zeros

      by_header : (HasGroupHeader limits bytes gate × HasPromisedRoom bytes gate × ((commands : List C) → HasGroupAfterGate format limits bytes gate place commands → ⊥))
          ⊎ (HasSealHeader bytes gate × (HasSeal bytes gate place → ⊥)) → payload_at format limits bytes gate place ≡ Err BadRecord
      by_header (inl has) = elim (group_or_not (are_zeros (part (16 + size_in p) (512 * payload_sectors (size_in p) - (16 + size_in p)) p))
          (commands_in format limits (count_in p) (part 16 (size_in p) p)) (size_in p)) [
            | inl read ↦ absurd (has.2 read.0 (payload_from format limits bytes gate place each (Group read.0 (size_in p)) (at_group_there has.0 bad.0 has.1 ∙ read.1)).0)
            | inr refused ↦ at_group_there has.0 bad.0 has.1 ∙ refused
          ]
      by_header (inr has) = sealed has.0 has.1 (are_zeros (part 16 496 p)) refl
