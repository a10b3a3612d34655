-- Up to the boundary ahead the rights stay as they are.
use mathlib.Core.Bool.{true, true≢false}
use mathlib.Core.List.{List}
use mathlib.Core.Path.{◌≡◌, sym, ◌∙◌}
use Prim.Native.Nat.{ℕ, zero, suc, ◌+◌, ◌≤◌, ◌<◌}
use native.Mathlib.Decide.{dec_lt}
use native.Mathlib.Omega.{arith}
use Rattle.access.specs.declared.bus.Bus.{Bus}
use Rattle.regions.specs.Ahead.{lesser, region_ahead, sub_ahead, base_ahead, ahead}
use Rattle.regions.specs.Words.{base, sub}
use Rattle.regions.specs.Rights.{rights_word}
use Rattle.regions.specs.Rules.{covers}
use Rattle.regions.proofs.SameCover.{SameCover, rights-by-cover}
use Rattle.regions.proofs.Found.{sub_low, subs-low, base-low}
use Rattle.regions.proofs.Lies.{is-lesser, first, last, Lies, off, before, past, inside, lies, ahead-off, ahead_before, ahead_past, ahead-inside}

module _ (w : List ℕ) (o y : ℕ) (h : o ≤ y) where
  -- y lies to the region as o does, and short of what is further inside it where that covers
  record Stays (p to : ℕ) (further : ℕ → ℕ) : Type 0 where
    same : covers w p o ≡ covers w p y
    within : covers w p o ≡ true → y < further (lesser (last w p + 1) to)

  region-stays : (p to : ℕ) (further : ℕ → ℕ) → ((t : ℕ) → further t ≤ t) → y < region_ahead w p o further to → Stays p to further
  region-stays p to further f l = by (lies w p o)
    where
      by : Lies w p o → Stays p to further
      by (off e) = let a = ahead-off w p o further to e in record { same = a.1 ∙ sym (simp e); within = λ c. absurd (true≢false (sym c ∙ a.1)) }
      by (before e b) =
          let a = ahead_before w p o further to e b in
          let g : y < first w p = omega (arith, rw (← a.0) at l, (is-lesser (first w p) to).left) in
          record { same = a.1 ∙ sym (ahead_before w p y further to e g).1; within = λ c. absurd (true≢false (sym c ∙ a.1)) }
      by (past e b c) =
          let a = ahead_past w p o further to e b c in
          record { same = a.1 ∙ sym (ahead_past w p y further to e (omega arith) (omega arith)).1; within = λ d. absurd (true≢false (sym d ∙ a.1)) }
      by (inside e b c) =
          let a = ahead-inside w p o further to e b c in
          let k = rw (← a.0) at l in
          let g : y ≤ last w p = omega (arith, k, f (lesser (last w p + 1) to), (is-lesser (last w p + 1) to).left) in
          record { same = a.1 ∙ sym (ahead-inside w p y further to e (omega arith) g).1; within = λ d. k }

  sub-stays : (p to : ℕ) → y < sub_ahead w p o to → covers w p o ≡ covers w p y
  unfolding sub_ahead
  sub-stays p to l = (region-stays p to (λ t. t) (λ t. omega arith) l).same

  base_stays : (x to : ℕ) → y < base_ahead w x o to → SameCover w o y x
  unfolding base_ahead
  base_stays x to l =
      let r = region-stays (base x) to _ (subs-low w o x) l in
      let own = lesser (last w (base x) + 1) to in
      let a = sub_ahead w (sub x 0) o own in
      record {
        own = r.same;
        subs =
            λ c.
            let k = r.within c in
            (sub-stays (sub x 0) own (omega (arith, k, sub_low w o (sub x 1) a)), sub-stays (sub x 1) a k);
      }

  ahead-stays : (n to : ℕ) → y < ahead w n o to → (x : ℕ) → x < n → SameCover w o y x
  unfolding ahead
  ahead-stays zero to l x k = absurd (omega arith)
  ahead-stays (suc n) to l x k =
      by (dec_lt x n) (ahead-stays n to (omega (arith, l, base-low w o n (ahead w n o to))) x)
    where
      by : Dec (x < n) → (x < n → SameCover w o y x) → SameCover w o y x
      by (yes i) earlier = earlier i
      by (no i) earlier = let e : x ≡ n = omega arith in rw e (base_stays n (ahead w n o to) l)

  pub rights-stay : (bus : Bus) (n to : ℕ) → y < ahead w n o to → rights_word bus w n y ≡ rights_word bus w n o
  rights-stay bus n to l = sym (rights-by-cover w o y bus n (ahead-stays n to l))
