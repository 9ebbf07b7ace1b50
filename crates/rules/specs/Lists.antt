-- Lists of calls, and of requests.
use Rattle.std.specs.Prelude.{ℕ, List, [], ◌∷◌}
use Rattle.rules.specs.Records.{State}
use Rattle.rules.specs.Calls.{Call, Answer}
use Rattle.rules.specs.Refusals.{Request, serve, step}

pub record Event : Type 0 where
  pub call : Call
  pub answer : Answer

pub record Run : Type 0 where
  pub events : List Event
  pub state : State

unfoldable pub run : ℕ → State → List Call → Run
run R s [] = record { events = []; state = s }
run R s (q ∷ qs) =
    let t = step R s q in
    let later = run R t.state qs in
    record { events = record { call = q; answer = t.answer } ∷ later.events; state = later.state }

-- ---- lists of requests: calls, and fresh among them

pub record Served : Type 0 where
  pub request : Request
  pub answer : Answer

pub record Serving : Type 0 where
  pub served : List Served
  pub state : State

unfoldable pub serve_all : ℕ → State → List Request → Serving
serve_all R s [] = record { served = []; state = s }
serve_all R s (x ∷ xs) =
    let t = serve R s x in
    let later = serve_all R t.state xs in
    record { served = record { request = x; answer = t.answer } ∷ later.served; state = later.state }
