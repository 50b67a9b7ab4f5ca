-- What the code's iterator over the tokens of a text gives. Assumes nothing: these are definitions.
use Rattle.std.specs.Prelude.{List}
use Rattle.lexical.specs.Lexed as L
use Rattle.lexical.specs.Rules.{rules}
use Rattle.lex.specs.declared.tokens.Token.{Token}
use Rattle.lex.specs.declared.tokens.Tokens.{Tokens}

-- the tokens that are still to come
abbrev pub left : Tokens → List L.Token
left s = L.lexed rules s.rest.now

-- a token as the rules tell it
abbrev pub told : Token → L.Token
told t = L.token t.kind t.len
