-- The number of a run, case by case. Assumes nothing.
use mathlib.Core.Path.{◌≡◌, refl, sym}
use mathlib.Core.Bool.{Bool, true, false, not, cond}
use Prim.Native.Nat.{ℕ, ◌≤◌, ◌<◌}
use borrow.Author.Tests.{lt-ltb, le-ltb}
use Rattle.laws.proofs.Tests.{apart}
use Rattle.runtime.specs.State.{Parser}
use Rattle.runtime.specs.State.{live}
use Rattle.runtime.specs.Acts.{stopped}
use Rattle.parse.specs.declared.Entry.{Entry}
use Rattle.parse.specs.declared.Entry.TheVariants.{SourceFile, Item, Expression}
use Rattle.parse.specs.Parse.{leaves, number_of}

module _ (entry : Entry) (tokens : ℕ) (p : Parser) where
  pub refused-number : stopped p ≡ true → p.refused ≡ number_of entry tokens p
  refused-number = by (live p)
    where
      by : (b : Bool) → not b ≡ true → p.refused ≡ cond b (leaves entry tokens p.pos) p.refused
      by true h = apart h
      by false h = refl

  module _ (h : stopped p ≡ false) where
    live-number : number_of entry tokens p ≡ leaves entry tokens p.pos
    live-number = by (live p) h
      where
        by : (b : Bool) → not b ≡ false → cond b (leaves entry tokens p.pos) p.refused ≡ leaves entry tokens p.pos
        by true h = refl
        by false h = apart (sym h)

    pub file-left : entry ≡ SourceFile → p.pos < tokens → 8 ≡ number_of entry tokens p
    file-left e l = rw (live-number, e, lt-ltb p.pos tokens l)

    pub file-whole : entry ≡ SourceFile → tokens ≤ p.pos → 0 ≡ number_of entry tokens p
    file-whole e l = rw (live-number, e, le-ltb p.pos tokens l)

    pub item-done : entry ≡ Item → 0 ≡ number_of entry tokens p
    item-done e = rw (live-number, e)

    pub expression-done : entry ≡ Expression → 0 ≡ number_of entry tokens p
    expression-done e = rw (live-number, e)
