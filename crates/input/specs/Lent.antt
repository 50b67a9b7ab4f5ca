-- What the lent slices say. Assumes nothing: this is a definition.
use Rattle.input.specs.declared.Input.{Input}
use Rattle.input.specs.Input.{Env, env}

-- the tokens of a lent `Input`
abbrev pub tokens : Input → Env
tokens i = env i.kinds.now i.joints.now
