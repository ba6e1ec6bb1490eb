-- The responses that a peer is sent.
use Rattle.std.specs.Prelude.{ℕ, Bool, true, false, ◌||◌, nat_le, if◌then◌else◌, List, Option, Some, None, codes}
use Rattle.group_core.specs.declared.numbers.Numbers.{Numbers}
use Rattle.status_page.specs.declared.counts.Counts.{Counts}
use Rattle.status_page.specs.declared.counts.CallTime.{CallTime}
use Rattle.status_page.specs.declared.counts.MemoryWaits.{MemoryWaits}
use Rattle.status_page.specs.declared.counts.CodeCount.{CodeCount}
use Rattle.status_page.specs.declared.request.Asked.{Asked}
use Rattle.status_page.specs.declared.request.Asked.TheVariants.{Page, Plots, Health, Alive, Ready, OtherPath, OtherMethod, More, Unreadable}
use Rattle.status_page.specs.Page.{page_text}
use Rattle.status_page.specs.Response.{response_text, plots_response}

-- The response where commands are accepted.
abbrev pub healthy : List ℕ
healthy = codes "HTTP/1.1 200 OK\r\nContent-Type: text/plain\r\nContent-Length: 3\r\nConnection: close\r\n\r\nok\n"

-- The response where the store has stopped.
abbrev pub has_stopped : List ℕ
has_stopped =
    codes
    "HTTP/1.1 503 Service Unavailable\r\nContent-Type: text/plain\r\nContent-Length: 65\r\nConnection: close\r\n\r\nthe store has stopped: no command is accepted, and lookups go on\n"

-- The response to a question for the server's health: whether the store has stopped.
abbrev pub health_text : Bool → List ℕ
health_text false = healthy
health_text true = has_stopped

-- The response where a call of the device hangs.
abbrev pub hangs : List ℕ
hangs =
    codes
    "HTTP/1.1 503 Service Unavailable\r\nContent-Type: text/plain\r\nContent-Length: 71\r\nConnection: close\r\n\r\na call of the device hangs: no command is committed, and lookups go on\n"

-- The response where commands are accepted as long as the device does not hang. A call of the
-- device hangs that has taken ten seconds.
abbrev pub unless_hanging : Option CallTime → List ℕ
unless_hanging None = healthy
unless_hanging (Some time) = if nat_le 10000000 time.microseconds then hangs else healthy

-- The response where the flusher or the checkpointer waits for memory.
abbrev pub has_no_memory : List ℕ
has_no_memory =
    codes
    "HTTP/1.1 503 Service Unavailable\r\nContent-Type: text/plain\r\nContent-Length: 83\r\nConnection: close\r\n\r\na thread of the store has no memory: commands wait or will soon, and lookups go on\n"

-- The response to a question whether commands are accepted, and committed soon: whether the store
-- has stopped, which actors wait for memory, and the call of the device that is under way.
abbrev pub ready_text : Bool → MemoryWaits → Option CallTime → List ℕ
ready_text true waits call = has_stopped
ready_text false waits call = if waits.flusher || waits.checkpointer then has_no_memory else unless_hanging call

-- The response where the path is none of those that there are.
abbrev pub not_found : List ℕ
not_found = codes "HTTP/1.1 404 Not Found\r\nContent-Length: 0\r\nConnection: close\r\n\r\n"

-- The response where the method is not allowed.
abbrev pub not_allowed : List ℕ
not_allowed = codes "HTTP/1.1 405 Method Not Allowed\r\nAllow: GET\r\nContent-Length: 0\r\nConnection: close\r\n\r\n"

-- The response where the bytes are no request.
abbrev pub bad_request : List ℕ
bad_request = codes "HTTP/1.1 400 Bad Request\r\nContent-Length: 0\r\nConnection: close\r\n\r\n"

-- The text that a peer is sent for what it asks: the page, the plots, the health, that the server
-- answers, whether commands are accepted, or why nothing is sent.
abbrev pub answer_text : Asked → Numbers → Counts → List CodeCount → List ℕ
answer_text Page numbers counts refused = response_text (page_text numbers counts refused)
answer_text Plots numbers counts refused = plots_response
answer_text Health numbers counts refused = health_text numbers.stopped
answer_text Alive numbers counts refused = healthy
answer_text Ready numbers counts refused = ready_text numbers.stopped counts.waits counts.call
answer_text OtherPath numbers counts refused = not_found
answer_text OtherMethod numbers counts refused = not_allowed
answer_text More numbers counts refused = bad_request
answer_text Unreadable numbers counts refused = bad_request
