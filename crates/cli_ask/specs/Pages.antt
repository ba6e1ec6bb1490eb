-- The pages of a list: of which type they are, after which id the next one begins, and which one is
-- the last.
use Rattle.std.specs.Prelude.{◌≡◌, ℕ, ◌-◌, ◌==◌, Bool, true, false, IsTrue, ◌⊎◌, List, [], ◌∷◌, ◌++◌, Option, None, Some, if◌then◌else◌, length, slice_get}
use Rattle.std.specs.Option.{option_map}
use Rattle.std.specs.List.{flat_map, AllByRecursion}
use Rattle.std.specs.Ordering.{nat_cmp, is_lt}
use Rattle.std.specs.Cmp.Lexicographic.{slice_cmp}
use Rattle.std.specs.Io.KnownBytes.{Appends}
use Rattle.isd_as.specs.IsdAs.{isd_as_number}
use Rattle.isd_as.specs.declared.number.IsdAs.{IsdAs}
use Rattle.row_lines.specs.declared.form.RowForm.{RowForm}
use Rattle.seg_core.specs.Digest.{segment_digest}
use Rattle.seg_core.specs.Registration.{type_number}
use Rattle.seg_core.specs.declared.seg_type.SegType.{SegType}
use Rattle.seg_core.specs.declared.seg_type.SegType.TheVariants.{Up, Down, Core}
use Rattle.session_core.specs.Reply.{Listed}
use Rattle.session_core.specs.declared.list_request.ListRequest.{ListRequest}
use Rattle.session_core.specs.declared.message.Message.TheVariants as message
use Rattle.session_core.specs.declared.service.Listing.{Listing}
use Rattle.cli_ask.specs.declared.error.AskError.{AskError}
use Rattle.cli_ask.specs.declared.error.AskError.TheVariants as error
use Rattle.cli_ask.specs.Lines.{segment_lines}
use Rattle.cli_ask.specs.Talk.{Byte, Passes, exchange_of}

-- Why a page after this id has no reply. A server without lists ends the connection instead of
-- replying to the first one.
abbrev pub unlisted : Option (List ℕ) → AskError → AskError
unlisted None error.Ended = error.NoLists
unlisted after e = e

-- A page has no segments, or segments of this type.
abbrev pub IsOfType : SegType → Listing → Type 0
IsOfType kind page = (page.segments.items ≡ []) ⊎ (page.kind ≡ kind)

-- The id of the last segment of a page, if it has any.
abbrev pub last_id : Listing → Option (List ℕ)
last_id page = option_map segment_digest (slice_get page.segments.items (length page.segments.items - 1))

-- An id is strictly above the one before, if there is one.
abbrev pub is_above : Option (List ℕ) → List ℕ → Bool
is_above None id = true
is_above (Some before) id = is_lt (slice_cmp nat_cmp before id)

-- The types that are listed: this one, or all by their numbers.
abbrev pub kinds_of : Option SegType → List SegType
kinds_of None = Up ∷ (Down ∷ (Core ∷ []))
kinds_of (Some kind) = kind ∷ []

-- The request of the first page of a type, whose ends these patterns cover.
abbrev pub first_request : SegType → IsdAs × IsdAs → ListRequest
first_request kind ends = record { kind = type_number kind; start = isd_as_number ends.0; end = isd_as_number ends.1; after = None }

-- The request of the page behind this one: it begins after the last id of this one.
abbrev pub next_request : ListRequest → Listing → ListRequest
next_request request page = record { kind = request.kind; start = request.start; end = request.end; after = last_id page }

-- A request, and then the page.
abbrev pub page_talk : ListRequest → Listing → List Byte
page_talk request page = exchange_of (message.List request) (Listed page.more page.kind page.segments.items)

-- Pages, each with its request. The first request is this one.
abbrev pub pages_talk : ListRequest → List Listing → List Byte
pages_talk request [] = []
pages_talk request (page ∷ pages) = page_talk request page ++ pages_talk (next_request request page) pages

-- The last of these pages says that no more follow, and each one before it says that more follow.
abbrev pub is_whole : List Listing → Bool
is_whole [] = false
is_whole (page ∷ pages) = if page.more then is_whole pages else (length pages == 0)

-- The lines of pages of a type.
abbrev pub page_lines : RowForm → SegType → List Listing → List ℕ
page_lines form kind pages = flat_map (λ page. segment_lines form kind page.segments.items) pages

-- All pages from this request on were asked for, one after the other, and their lines were printed.
pub record HasListed (talk talk_after : Option (List Byte)) (output output_after : Option (List ℕ)) (form : RowForm) (kind : SegType) (request : ListRequest) : Type 0 where
  pub pages : List Listing
  pub whole : IsTrue (is_whole pages)
  pub of_type : AllByRecursion (IsOfType kind) pages
  pub passed : Passes talk talk_after (pages_talk request pages)
  pub printed : Appends output output_after (page_lines form kind pages)

-- So it was with each of these types in turn.
abbrev pub HasListedAll : Option (List Byte) → Option (List Byte) → Option (List ℕ) → Option (List ℕ) → RowForm → IsdAs × IsdAs → List SegType → Type 0
HasListedAll talk talk_after output output_after form ends [] = (talk_after ≡ talk) × (output_after ≡ output)
HasListedAll talk talk_after output output_after form ends (kind ∷ kinds) =
    (next : Option (List Byte)) × (out : Option (List ℕ)) × HasListed talk next output out form kind (first_request kind ends) × HasListedAll next talk_after out output_after form ends kinds
