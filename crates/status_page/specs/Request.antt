-- What a peer asks for.
use Rattle.std.specs.Prelude.{◌≡◌, ◌≢◌, ◌⊎◌, ℕ, List, codes}
use Rattle.httparse.specs.Grammar.{RequestHead, ReadsRequest, HasNoRequest, MayBecomeRequest, NeverHasRequest}
use Rattle.httparse.specs.Spans.{RequestExceeds}
use Rattle.status_page.specs.declared.request.Asked.{Asked}
use Rattle.status_page.specs.declared.request.Asked.TheVariants.{Page, Plots, Health, Alive, Ready, OtherPath, OtherMethod, More, Unreadable}

-- The path of the plots.
abbrev pub plots_path : List ℕ
plots_path = codes "/"

-- The path of the page.
abbrev pub page_path : List ℕ
page_path = codes "/metrics"

-- The path of the server's health.
abbrev pub health_path : List ℕ
health_path = codes "/healthz"

-- The path that says that the server answers.
abbrev pub alive_path : List ℕ
alive_path = codes "/livez"

-- The path that says whether the server takes commands.
abbrev pub ready_path : List ℕ
ready_path = codes "/readyz"

-- This is at a path.
abbrev pub IsAt : List ℕ → Asked → Type 0
IsAt path Page = path ≡ page_path
IsAt path Plots = path ≡ plots_path
IsAt path Health = path ≡ health_path
IsAt path Alive = path ≡ alive_path
IsAt path Ready = path ≡ ready_path
IsAt path _ = ⊥

-- Nothing is at a path.
abbrev pub IsNoPath : List ℕ → Type 0
IsNoPath path = (path ≢ plots_path) × (path ≢ page_path) × (path ≢ health_path) × (path ≢ alive_path) × (path ≢ ready_path)

-- What a method asks of a path. The path is judged first.
abbrev pub IsJudged : List ℕ → List ℕ → Asked → Type 0
IsJudged method path OtherPath = IsNoPath path
IsJudged method path OtherMethod = ((there : Asked) × IsAt path there) × (method ≢ codes "GET")
IsJudged method path asked = IsAt path asked × (method ≡ codes "GET")

-- The bytes begin with the head of a request, by whose method and target this is asked.
pub record IsHeadOf (bytes : List ℕ) (asked : Asked) : Type 0 where
  -- The head.
  pub head : RequestHead
  -- The bytes after the head.
  pub rest : List ℕ
  -- The bytes are read as the head, and the rest.
  pub reads : ReadsRequest bytes head rest
  -- The head's method and target ask for this.
  pub judged : IsJudged head.method head.target asked

-- What the bytes of a peer ask for. The head of a request may be at the front. There may be none
-- yet, and more bytes may complete one. Or the bytes can be no head of at most 64 fields.
abbrev pub IsAsked : List ℕ → Asked → Type 0
IsAsked bytes More = HasNoRequest bytes × MayBecomeRequest bytes
IsAsked bytes Unreadable = NeverHasRequest bytes ⊎ RequestExceeds 64 bytes
IsAsked bytes asked = IsHeadOf bytes asked
