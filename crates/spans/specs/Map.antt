-- What a map is, in the words of document 01, "The map", and the map of each rights function.
-- A rights function f gives the rights word f x at each offset x; w is the window's size, so that the offsets are those below w.
use Rattle.std.specs.Prelude.{ℕ, zero, suc, ◌+◌, ◌-◌, ◌*◌, ◌≤◌, ◌<◌, ◌≡◌, ◌≢◌, cond, List, eqb, length}
use Rattle.spans.specs.Rows.{Rows, none, more, start, end, rights}

-- The first n rows of the numbers m cover the offsets below w without gap or overlap
pub record Tiles (w n : ℕ) (m : List ℕ) : Type 0 where
  -- the numbers hold n rows, and some row unless there is no offset
  pub held : 3 * n ≤ length m
  pub empty : n ≡ 0 → w ≡ 0
  -- the first start is 0, a later one the end before plus 1
  pub first : 0 < n → start m 0 ≡ 0
  pub next : (k : ℕ) → k + 1 < n → start m (k + 1) ≡ end m k + 1
  -- the last end is the window's size less 1
  pub last : 0 < n → end m (n - 1) + 1 ≡ w
  -- no end is below its start
  pub order : (k : ℕ) → k < n → start m k ≤ end m k

-- The first n rows of the numbers m are the map of f below w: in document 01, a map as made
pub record IsMap (f : ℕ → ℕ) (w n : ℕ) (m : List ℕ) : Type 0 where
  pub tiles : Tiles w n m
  -- at each offset of a row the row's rights are f's
  pub exact : (k x : ℕ) → k < n → start m k ≤ x → x ≤ end m k → rights m k ≡ f x
  -- neighbours differ in rights
  pub differ : (k : ℕ) → k + 1 < n → rights m k ≢ rights m (k + 1)

-- the rows rs with one more span behind them: where the rights are the same the last row goes on to the span's end, else the span is a row of its own
unfoldable pub join : Rows → ℕ → ℕ → ℕ → Rows
join none s e q = more none s e q
join (more rs s₀ e₀ q₀) s e q = cond (eqb q₀ q) (more rs s₀ e q₀) (more (more rs s₀ e₀ q₀) s e q)

-- the map of f below w: every offset in turn as a span of its own, joined to those before it
unfoldable pub map_of : (ℕ → ℕ) → ℕ → Rows
map_of f zero = none
map_of f (suc x) = join (map_of f x) x x (f x)
