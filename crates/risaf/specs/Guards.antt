-- Which guards there are: document 01, "Guard: base regions, window size", "Granule 4,096 bytes", "guard n raises 138 + n"; and the four of
-- document 02, Q-6, on the AHB bus.
use Rattle.std.specs.Prelude.{Bool, cond, List, [], ◌∷◌, ℕ, suc, ◌-◌, ◌^◌, eqb, length, Option, Some, None, is_some, unwrap_or}
use Rattle.access.specs.declared.bus.Bus.{Bus}
use Rattle.access.specs.declared.bus.Bus.TheVariants.{Axi, Ahb}
use Rattle.risaf.specs.declared.guards.Shape.{Shape}

-- a row of the table of guards: the sizes of the window and of the granule in bytes, and the flag that a refused access raises
pub record GuardRow : Type 0 where
  pub number : ℕ
  pub regions : ℕ
  pub window : ℕ
  pub granule : ℕ
  pub bus : Bus
  pub flag : ℕ

abbrev guard : ℕ → ℕ → ℕ → ℕ → Bus → ℕ → GuardRow
guard n regions window granule bus flag =
    record { number = n; regions = regions; window = window; granule = granule; bus = bus; flag = flag }

-- the table of guards, in rising number: number, base regions, window, granule, bus, flag
abbrev pub guards : List GuardRow
guards =
    guard 1 7 (2 ^ 30) 4096 Axi 139
    ∷ guard 2 7 (2 ^ 20) 4096 Axi 140
    ∷ guard 3 7 (2 ^ 20) 4096 Axi 141
    ∷ guard 4 11 (2 ^ 32) 4096 Axi 142
    ∷ guard 5 11 (2 ^ 32) 4096 Axi 143
    ∷ guard 6 11 (2 ^ 32) 4096 Axi 144
    ∷ guard 7 7 409_600 4096 Axi 145
    ∷ guard 8 7 262_144 4096 Axi 146
    ∷ guard 9 7 131_072 4096 Axi 147
    ∷ guard 11 7 (2 ^ 28) 4096 Axi 149
    ∷ guard 12 7 (2 ^ 28) 4096 Axi 150
    ∷ guard 13 7 (2 ^ 28) 4096 Axi 151
    ∷ guard 14 7 (2 ^ 28) 4096 Axi 152
    ∷ guard 15 2 4096 4 Ahb 153
    ∷ guard 21 7 16_384 512 Ahb 155
    ∷ guard 22 7 16_384 512 Ahb 156
    ∷ guard 23 3 4096 512 Ahb 157
    ∷ []

abbrev pub guard_count : ℕ
guard_count = length guards

-- the bits of an offset within a granule, whose size is a power of 2
abbrev pub low_bits : ℕ → ℕ
low_bits granule = granule - 1

-- a guard by its row and its place
abbrev pub shaped : ℕ → GuardRow → Shape
shaped place g =
    record {
      place = place;
      regions = g.regions;
      window = g.window;
      granule = g.granule;
      bus = g.bus;
      flag = record { 0 = g.flag };
    }

-- the shape of guard n by the rows of a table whose first has this place
unfoldable pub shape_in : List GuardRow → ℕ → ℕ → Option Shape
shape_in [] place n = None
shape_in (g ∷ gs) place n = cond (eqb n g.number) (Some (shaped place g)) (shape_in gs (suc place) n)

-- of guard n, if there is one
unfoldable pub shape_at : ℕ → Option Shape
shape_at n = shape_in guards 0 n

abbrev pub is_guard : ℕ → Bool
is_guard n = is_some (shape_at n)

-- a number that is no guard's has no region and no window
abbrev pub no_shape : Shape
no_shape = record { place = 0; regions = 0; window = 0; granule = 0; bus = Axi; flag = record { 0 = 0 } }

unfoldable pub shape_of : ℕ → Shape
shape_of n = unwrap_or (shape_at n) no_shape
