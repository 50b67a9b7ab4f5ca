-- `input::parts_of` meets its contract. Assumes nothing.
use Rattle.std.proofs.Common.{rules}
use Rattle.input.specs.Glue.{glued_kinds, parts_of}
use Rattle.input.proofs.Reading.{plain}
use Rattle.input.proofs.parts_of.Goals as goal

pub returns-in-42 : goal.returns-in-42
unfolding parts_of
returns-in-42 c = rw c.in-42.is

pub returns-in-38 : goal.returns-in-38
unfolding parts_of
returns-in-38 c = rw c.in-38.is

pub returns-in-31 : goal.returns-in-31
unfolding parts_of
returns-in-31 c = rw c.in-31.is

pub returns-in-36 : goal.returns-in-36
unfolding parts_of
returns-in-36 c = rw c.in-36.is

pub returns-in-27 : goal.returns-in-27
unfolding parts_of
returns-in-27 c = rw c.in-27.is

pub returns-in-47 : goal.returns-in-47
unfolding parts_of
returns-in-47 c = rw c.in-47.is

pub returns-in-46 : goal.returns-in-46
unfolding parts_of
returns-in-46 c = rw c.in-46.is

pub returns-in-49 : goal.returns-in-49
unfolding parts_of
returns-in-49 c = rw c.in-49.is

pub returns-in-44 : goal.returns-in-44
unfolding parts_of
returns-in-44 c = rw c.in-44.is

pub returns-in-48 : goal.returns-in-48
unfolding parts_of
returns-in-48 c = rw c.in-48.is

pub returns-in-45 : goal.returns-in-45
unfolding parts_of
returns-in-45 c = rw c.in-45.is

pub returns-in-41 : goal.returns-in-41
unfolding parts_of
returns-in-41 c = rw c.in-41.is

pub returns-in-2 : goal.returns-in-2
unfolding parts_of
returns-in-2 c = rw c.in-2.is

pub returns-in-51 : goal.returns-in-51
unfolding parts_of
returns-in-51 c = rw c.in-51.is

pub returns-in-39 : goal.returns-in-39
unfolding parts_of
returns-in-39 c = rw c.in-39.is

pub returns-in-33 : goal.returns-in-33
unfolding parts_of
returns-in-33 c = rw c.in-33.is

pub returns-in-34 : goal.returns-in-34
unfolding parts_of
returns-in-34 c = rw c.in-34.is

pub returns-in-40 : goal.returns-in-40
unfolding parts_of
returns-in-40 c = rw c.in-40.is

pub returns-in-52 : goal.returns-in-52
unfolding parts_of
returns-in-52 c = rw c.in-52.is

pub returns-in-43 : goal.returns-in-43
unfolding parts_of
returns-in-43 c = rw c.in-43.is

pub returns-in-50 : goal.returns-in-50
unfolding parts_of
returns-in-50 c = rw c.in-50.is

pub returns-in-28 : goal.returns-in-28
unfolding parts_of
returns-in-28 c = rw c.in-28.is

pub returns-in-29 : goal.returns-in-29
unfolding parts_of
returns-in-29 c = rw c.in-29.is

pub returns-in-53 : goal.returns-in-53
unfolding parts_of
returns-in-53 c = rw c.in-53.is

pub returns-in-54 : goal.returns-in-54
unfolding parts_of
returns-in-54 c = rw c.in-54.is

pub returns-in_default : goal.returns-in_default
unfolding parts_of
returns-in_default c = plain _ glued_kinds (Unit {0}) (search rules)
