-- The response to a peer.
use Rattle.std.specs.Prelude.{ℕ, List, ◌++◌, length, codes}
use Rattle.std.specs.Fmt.{decimal}
use Rattle.status_page.specs.declared.plots.TheConstants.{PLOTS, POLICY}

-- The head of the response that carries a page of `len` bytes.
unfoldable pub page_head : ℕ → List ℕ
page_head len =
    codes "HTTP/1.1 200 OK\r\nContent-Type: text/plain; version=0.0.4\r\nContent-Length: "
    ++ (decimal len ++ codes "\r\nConnection: close\r\n\r\n")

-- The response that carries a page.
abbrev pub response_text : List ℕ → List ℕ
response_text page = page_head (length page) ++ page

-- The page that draws the numbers of a server.
unfoldable pub plots : List ℕ
plots = PLOTS.now

-- What a browser may load and run for the page of plots.
unfoldable pub policy : List ℕ
policy = POLICY.now

-- The head of the response that carries a page of plots of `len` bytes.
unfoldable pub plots_head : ℕ → List ℕ
plots_head len =
    codes "HTTP/1.1 200 OK\r\nContent-Type: text/html; charset=utf-8\r\nContent-Security-Policy: "
    ++ (policy
    ++ (codes "\r\nX-Content-Type-Options: nosniff\r\nContent-Length: " ++ (decimal len ++ codes "\r\nConnection: close\r\n\r\n")))

-- The response that carries the page of plots.
abbrev pub plots_response : List ℕ
plots_response = plots_head (length plots) ++ plots
