-- A session with one end: what each call is answered, and the session after it. Assumes nothing.
use Rattle.std.specs.Prelude.{List, [], ◌∷◌, ◌++◌, Some, None, Ok, Err, Option, Result}
use Rattle.refusal.specs.declared.Refusal.{Refusal}
use Rattle.profile.specs.declared.entry.Entry.{Entry}
use Rattle.profile.specs.declared.examples.Example.TheVariants.{A}
use Rattle.profile.specs.Examples.{entries_of}
use Rattle.profile.specs.Questions.{refusal}
use Rattle.trunk.specs.End.{started}
use Rattle.session.specs.declared.call.Call.{Call}
use Rattle.session.specs.declared.call.Call.TheVariants as call
use Rattle.session.specs.declared.call.ServiceCall.{ServiceCall}
use Rattle.session.specs.declared.answer.Answer.{Answer}
use Rattle.session.specs.declared.answer.Answer.TheVariants.{Done, Refused, NotAllowed}
use Rattle.session.specs.declared.end.End.{End}
use Rattle.session.specs.declared.end.End.TheVariants.{SetUp, InService}
use Rattle.session.specs.Serving.{serve}

-- an end, and the entries that were collected for it
pub record Session : Type 0 where
  pub end : End
  pub collected : List Entry

abbrev pub new_session : Session
new_session = record { end = SetUp (entries_of A); collected = [] }

-- What the state does not allow changes nothing.
abbrev pub start : End → Answer × End
start (SetUp es) = (Done, InService (started es))
start (InService s) = (NotAllowed, InService s)

abbrev pub stop : End → Answer × End
stop (SetUp es) = (NotAllowed, SetUp es)
stop (InService s) = (Done, SetUp s.profile)

-- the offered entries are the profile if no question refuses them
abbrev pub load_by : Option Refusal → List Entry → List Entry → Answer × List Entry
load_by None es offered = (Done, offered)
load_by (Some f) es offered = (Refused f, es)

-- the collected entries are offered and forgotten
abbrev pub load : End → List Entry → Answer × Session
load (SetUp es) collected = let r = load_by (refusal collected) es collected in (r.0, record { end = SetUp r.1; collected = [] })
load (InService s) collected = (NotAllowed, record { end = InService s; collected = collected })

-- a refusal is an answer
abbrev pub answer_or_refusal : Result Answer Refusal → Answer
answer_or_refusal (Ok a) = a
answer_or_refusal (Err f) = Refused f

abbrev pub serve_at : End → ServiceCall → Answer × End
serve_at (SetUp es) c = (NotAllowed, SetUp es)
serve_at (InService s) c = let r = serve s c in (answer_or_refusal r.0, InService r.1)

-- a call on the end alone
abbrev pub on_end : Session → Answer × End → Answer × Session
on_end s r = (r.0, record { end = r.1; collected = s.collected })

abbrev pub answer : Session → Call → Answer × Session
answer s (call.Entry e) = (Done, record { end = s.end; collected = s.collected ++ (e ∷ []) })
answer s call.Load = load s.end s.collected
answer s call.Start = on_end s (start s.end)
answer s call.Stop = on_end s (stop s.end)
answer s (call.Serve c) = on_end s (serve_at s.end c)
