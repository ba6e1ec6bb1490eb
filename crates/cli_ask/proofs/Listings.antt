-- Pages, one after the other.
use Rattle.std.proofs.Common.{◌≡◌, ℕ, ◌==◌, Bool, true, false, IsTrue, List, [], ◌∷◌, Option, if◌then◌else◌, length, refl, sym, subst, append-nil}
use Rattle.std.specs.Io.KnownBytes.{Appends}
use Rattle.std.proofs.KnownBytes.{Appends-trans}
use Rattle.row_lines.specs.declared.form.RowForm.{RowForm}
use Rattle.seg_core.specs.declared.seg_type.SegType.{SegType}
use Rattle.session_core.specs.declared.list_request.ListRequest.{ListRequest}
use Rattle.session_core.specs.declared.service.Listing.{Listing}
use Rattle.cli_ask.specs.Lines.{segment_lines}
use Rattle.cli_ask.specs.Pages.{HasListed, IsOfType, is_whole, next_request, page_talk}
use Rattle.cli_ask.specs.Talk.{Byte, Passes}
use Rattle.cli_ask.proofs.Talk.{Passes-trans}

module _ (form : RowForm) (kind : SegType) (request : ListRequest) (page : Listing) where
  -- the last page
  pub listed-last : (t u : Option (List Byte)) (o p : Option (List ℕ)) → page.more ≡ false → IsOfType kind page → Passes t u (page_talk request page)
      → Appends o p (segment_lines form kind page.segments.items) → HasListed t u o p form kind request
  listed-last t u o p more of_type passed printed = record {
    pages = page ∷ [];
    whole = subst (λ (b : Bool). IsTrue (if b then false else true)) (sym more) refl;
    of_type = (of_type, tt);
    passed = subst (Passes t u) (sym (append-nil (page_talk request page))) passed;
    printed = subst (Appends o p) (sym (append-nil (segment_lines form kind page.segments.items))) printed;
  }

  -- a page behind which others follow
  pub listed-more : (t u v : Option (List Byte)) (o p q : Option (List ℕ)) → page.more ≡ true → IsOfType kind page → Passes t u (page_talk request page)
      → Appends o p (segment_lines form kind page.segments.items) → HasListed u v p q form kind (next_request request page) → HasListed t v o q form kind request
  listed-more t u v o p q more of_type passed printed rest = record {
    pages = page ∷ rest.pages;
    whole = subst (λ (b : Bool). IsTrue (if b then is_whole rest.pages else (length rest.pages == 0))) (sym more) rest.whole;
    of_type = (of_type, rest.of_type);
    passed = Passes-trans t u v _ _ passed rest.passed;
    printed = Appends-trans o p q _ _ printed rest.printed;
  }
