-- What is asked of the counted calls, and of a call's answer. Assumes nothing.
use Rattle.runtime.specs.declared.parser.Completed.{Completed}
use Rattle.std.specs.Prelude.{Option, Some, None}
use mathlib.Core.List.{[], ◌∷◌}
use mathlib.Core.Bool.{Bool}
use Prim.Native.Nat.{ℕ}
use Rattle.runtime.specs.Acts.{Acts}
use Rattle.grammar.specs.Grammar.{Counted}
use Rattle.markers.proofs.Marks.{Marker.fresh, Marker.shut, Marks}
use Rattle.markers.proofs.Calculus.{Opens, Run, none, weaken, less}

-- an expression that was read is completed; none leaves nothing
abbrev pub gotten : Option (Completed × Bool) → Marks
gotten (Some (cm, block)) = shut cm.pos ∷ []
gotten None = []

-- a marker that is handed over is taken
abbrev pub handed : Option ℕ → Marks
handed (Some m) = fresh m ∷ []
handed None = []

-- an answer that nobody reads
pub unseen : {xs : Marks} (m : Acts (Option (Completed × Bool))) → Run xs m gotten → Run xs m none
unseen m h = record { runs = λ o r p. weaken m r (λ g t. Opens o (gotten g) t) (λ g t. Opens o [] t) (λ g t q. by g q) (h.runs o r p) }
  where
    by : {o r : Marks} (g : (Option (Completed × Bool))) → Opens o (gotten g) r → Opens o [] r
    by (Some (cm, block)) q = less q
    by None q = q

-- The counted calls handle their markers well.
pub record Tidy (c : Counted) : Type 0 where
  pub expr-bp : (m : Option ℕ) (prefer : Bool) (bp : ℕ) → Run (handed m) (c.expr_bp m prefer bp) gotten
  pub stmt : Run [] c.stmt none
  pub type-spec : Run [] c.type_spec none
  pub complex-type-spec : Run [] c.complex_type_spec none
  pub if-stmt : (m : ℕ) → Run (fresh m ∷ []) (c.if_stmt m) none
  pub expression-list : Run [] c.expression_list none
