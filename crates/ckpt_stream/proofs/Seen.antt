-- What a planner has seen after one row more: for `planner`.
use Rattle.std.proofs.Common.{◌≡◌, ℕ, ◌+◌, List, [], ◌∷◌, ◌++◌, length, Bool, true, false, if◌then◌else◌, refl, sym, ap, ◌∙◌, subst, arith}
use Rattle.std.specs.Prelude.{Option, map}
use Rattle.std.specs.Ordering.{is_eq}
use Rattle.std.proofs.lemmas.List.{append_assoc}
use Rattle.path_db.specs.declared.command.Command.{Command}
use Rattle.row_map.specs.Database.{RowView}
use Rattle.path_records.specs.declared.key.Key.{Key}
use Rattle.path_records.specs.Key.{key_bytes}
use Rattle.ckpt_stream.specs.declared.planner.Planner.{Planner}
use Rattle.ckpt_stream.specs.Merging.{order_of, keys_named, keys_named_by, has_key, KeysRise, Includes, outlives, merged}
use Rattle.ckpt_stream.specs.declared.plan.Edit.{Edit}
use Rattle.ckpt_stream.specs.Planning.{is_beyond, IsPlanned, IsAfterKeyPuts}
use Rattle.ckpt_stream.specs.Planner.{HasSeen, PlansOn}
use Rattle.ckpt_stream.proofs.SettledRows.{no_olds}

pub seen_more : (commands : List Command) (seen : List RowView) (row : RowView) (old mid new : Planner) (found : Bool) (was : HasSeen commands seen old)
    → mid.keys.items ≡ old.keys.items → mid.purged ≡ old.purged → mid.kept ≡ old.kept → mid.olds ≡ old.olds
    → IsAfterKeyPuts found row mid.keys.items (is_beyond mid.purged) seen mid.at mid.edits.items was.planned.count was.planned.olds
    → PlansOn found row mid new → HasSeen commands (seen ++ row ∷ []) new
seen_more commands seen row old mid new found was keys purged kept olds is on = record {
  rise = subst (λ (l : List Key). KeysRise (map key_bytes l)) (sym (on.keys ∙ keys)) was.rise;
  covers = subst (λ (l : List Key). Includes (map key_bytes l) (keys_named_by commands)) (sym (on.keys ∙ keys)) was.covers;
  purges = λ other. ap (λ (o : Option ℕ). is_beyond o other) (on.purged ∙ purged) ∙ was.purges other;
  planned = on.more seen was.planned.count was.planned.olds (kept ∙ was.planned.counted) (olds ∙ was.planned.registered) is;
}

all_left : (n : ℕ) → n ≡ 0 + 0 + n
all_left n = omega arith

nothing_planned : (keys : List Key) (p : RowView → Bool) → IsPlanned keys p [] 0 [] 0 []
nothing_planned keys p = record {
  inside = omega arith;
  puts = refl;
  bytes = refl;
  makes = λ left rows. refl;
  counts = λ left rows. all_left (length (merged left p (map key_bytes keys) rows));
  finds = λ rows. refl;
}

-- the keys of commands that come one after the other
pub named_by_both : (commands more : List Command) → keys_named_by (commands ++ more) ≡ keys_named_by commands ++ keys_named_by more
named_by_both [] more = refl
named_by_both (command ∷ commands) more =
    ap (λ (ks : List (List ℕ)). keys_named command ++ ks) (named_by_both commands more)
    ∙ sym (append_assoc (keys_named command) (keys_named_by commands) (keys_named_by more))

pub has_both : (ks ls : List (List ℕ)) (k : List ℕ) → has_key (ks ++ ls) k ≡ (if has_key ks k then true else has_key ls k)
has_both [] ls k = refl
has_both (l ∷ ks) ls k = ap (λ (b : Bool). if is_eq (order_of k l) then true else b) (has_both ks ls k) ∙ first_or (is_eq (order_of k l)) (has_key ks k) (has_key ls k)
  where
    first_or : (a b c : Bool) → (if a then true else (if b then true else c)) ≡ (if (if a then true else b) then true else c)
    first_or true b c = refl
    first_or false b c = refl

-- keys that cover those of commands, with those of more commands, cover the keys of all of them
pub covers_both : (old new : List (List ℕ)) (commands more : List Command) → Includes old (keys_named_by commands)
    → ((k : List ℕ) → has_key new k ≡ has_key (old ++ keys_named_by more) k) → Includes new (keys_named_by (commands ++ more))
covers_both old new commands more covers just k has =
    just k ∙ has_both old (keys_named_by more) k
    ∙ either_way (has_key (keys_named_by commands) k) (has_key old k) (has_key (keys_named_by more) k) (covers k)
    (sym (has_both (keys_named_by commands) (keys_named_by more) k) ∙ sym (ap (λ (ks : List (List ℕ)). has_key ks k) (named_by_both commands more)) ∙ has)
  where
    either_way : (n o m : Bool) → (n ≡ true → o ≡ true) → (if n then true else m) ≡ true → (if o then true else m) ≡ true
    either_way true o m so is = ap (λ (b : Bool). if b then true else m) (so refl)
    either_way false true m so is = refl
    either_way false false m so is = is

-- what a new planner has seen
pub nothing_seen : (commands : List Command) (planner : Planner) → KeysRise (map key_bytes planner.keys.items) → Includes (map key_bytes planner.keys.items) (keys_named_by commands)
    → ((row : RowView) → is_beyond planner.purged row ≡ outlives commands row) → planner.at ≡ 0 → planner.kept ≡ 0 → planner.edits.items ≡ [] → planner.olds ≡ []
    → HasSeen commands [] planner
nothing_seen commands planner rise covers purges at kept edits olds = record {
  rise = rise;
  covers = covers;
  purges = purges;
  planned = record {
    count = 0;
    counted = omega (arith, kept);
    olds = [];
    registered = olds ∙ no_olds;
    planned =
        subst (λ (n : ℕ). IsPlanned planner.keys.items (is_beyond planner.purged) [] n planner.edits.items 0 []) (sym at)
        (subst (λ (l : List Edit). IsPlanned planner.keys.items (is_beyond planner.purged) [] 0 l 0 []) (sym edits)
        (nothing_planned planner.keys.items (is_beyond planner.purged)));
  };
}
