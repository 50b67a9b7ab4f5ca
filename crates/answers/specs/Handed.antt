-- What a parse hands out: the words of its list, and the steps that they resolve to. Assumes nothing: these are definitions.
use Rattle.std.specs.Prelude.{List, ℕ, ◌*◌, take}
use Rattle.event.specs.Event.{event_words, events_of}
use Rattle.records.specs.declared.Step.{Step}
use Rattle.turns.specs.Process.{process, steps_of}
use Rattle.parse.specs.Parse.{Outcome}

abbrev pub handed : Outcome → List ℕ
handed o = take (o.answer.events * event_words) o.room

abbrev pub steps_in : Outcome → List Step
steps_in o = steps_of (process (events_of (handed o))).steps
