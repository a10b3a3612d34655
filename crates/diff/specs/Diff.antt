-- What a result is, and the result of two rights functions: f gives the old rights word f x at each offset x, g the new one. w is the window's
-- size, so that the offsets are those below w.
use Rattle.std.specs.Prelude.{Bool, ◌&&◌, cond, List, ◌≢◌, ◌≡◌, ℕ, zero, suc, ◌+◌, ◌*◌, ◌≤◌, ◌<◌, eqb, length}
use Rattle.diff.specs.Bits.{differing}
use Rattle.diff.specs.Rows.{DiffRows, none, more, diff_row_numbers, start, end, old, new, count, Enclosed}

-- The first n rows of the numbers m are what differs between f and g below w
pub record IsDiff (f g : ℕ → ℕ) (w n : ℕ) (m : List ℕ) : Type 0 where
  pub held : diff_row_numbers * n ≤ length m
  -- "in rising order": no end is below its start, and a row starts behind the one before it
  pub order : (k : ℕ) → k < n → start m k ≤ end m k
  pub rising : (k : ℕ) → k + 1 < n → end m k < start m (k + 1)
  -- in the window
  pub within : (k : ℕ) → k < n → end m k < w
  -- "the spans on which the rights differ, each with the two rights words"; "no other offset is"
  pub words : (k x : ℕ) → k < n → start m k ≤ x → x ≤ end m k → (old m k ≡ f x) × (new m k ≡ g x)
  pub apart : (k x : ℕ) → k < n → start m k ≤ x → x ≤ end m k → f x ≢ g x
  -- "Every differing offset is in exactly one span": in one, and in rising order in no other
  pub every : (x : ℕ) → x < w → f x ≢ g x → Enclosed n m x
  -- "neighbours with the same pair of words joined"
  pub joined : (k : ℕ) → k + 1 < n → end m k + 1 ≡ start m (k + 1) → old m k ≡ old m (k + 1) → new m k ≢ new m (k + 1)
  -- "the number of rights bits that differ in each span"
  pub counts : (k : ℕ) → k < n → count m k ≡ differing (old m k) (new m k)

-- a span from s of the words a and b goes on a row that ends at e₀ and has the words a₀ and b₀
abbrev pub goes_on : ℕ → ℕ → ℕ → ℕ → ℕ → ℕ → Bool
goes_on e₀ a₀ b₀ s a b = eqb (e₀ + 1) s && eqb a₀ a && eqb b₀ b

-- the rows rs with one more span behind them, of which the words differ: the last row goes on to the span's end, or the span is a row of its own
unfoldable pub behind : DiffRows → ℕ → ℕ → ℕ → ℕ → DiffRows
behind none s e a b = more none s e a b
behind (more rs s₀ e₀ a₀ b₀) s e a b =
    cond (goes_on e₀ a₀ b₀ s a b) (more rs s₀ e a₀ b₀) (more (more rs s₀ e₀ a₀ b₀) s e a b)

-- the same of any span: where its words are equal nothing differs, and it is left out
unfoldable pub with_span : DiffRows → ℕ → ℕ → ℕ → ℕ → DiffRows
with_span rs s e a b = cond (eqb a b) rs (behind rs s e a b)

-- what differs between f and g below w: every offset in turn as a span of its own, joined to those before it
unfoldable pub diff_of : (ℕ → ℕ) → (ℕ → ℕ) → ℕ → DiffRows
diff_of f g zero = none
diff_of f g (suc x) = with_span (diff_of f g x) x x (f x) (g x)
