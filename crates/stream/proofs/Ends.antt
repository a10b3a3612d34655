-- A block's first line, found by its feed.
use Rattle.std.proofs.Common.{◌≡◌, ℕ, ◌+◌, ◌<◌, ◌≤◌, Bool, true, false, cond, None, Some, eqb, List, length, get_or, take, drop, refl, ap, ◌∙◌, add-one, arith, length-drop, length-take-le}
use Rattle.std.proofs.lemmas.List.Recursion.{is_position_or_len}
use Rattle.std.proofs.lemmas.List.Sums.{position_or_len_is}
use Rattle.memchr.specs.Find.{IsFirstByte, is_byte}
use Rattle.stream.specs.Feeds.{IsFirstLine, feed_at}
use Rattle.stream.specs.Transcript.{feed, lines_in, rest}
use Rattle.stream.proofs.Cut.{all_rest, cut_off}

module _ (block : List ℕ) where
  feed-at : (i : ℕ) → i ≤ length block → ((k : ℕ) → k < i → eqb (get_or block k 0) feed ≡ false) → (i < length block → eqb (get_or block i 0) feed ≡ true)
      → feed_at block ≡ i
  unfolding feed_at
  feed-at i h before at =
      is_position_or_len feed_at (λ b. eqb b feed) refl (λ x xs. ap (cond (eqb x feed) 0) (omega arith)) block
      ∙ position_or_len_is (λ b. eqb b feed) block i 0 h before at

  not-feed : (k : ℕ) → ¬ (eqb (get_or block k 0) feed ≡ true) → eqb (get_or block k 0) feed ≡ false
  not-feed k h = go (eqb (get_or block k 0) feed) h
    where
      go : (t : Bool) → ¬ (t ≡ true) → t ≡ false
      go true n = absurd (n refl)
      go false n = refl

  pub first-line : {end : ℕ} → IsFirstByte (is_byte feed) block (Some end) → IsFirstLine block (take end block) (drop (end + 1) block)
  first-line {end} h =
      let k : end < length block = h.0.high in
      let its : feed_at block ≡ end = feed-at end (omega (arith, k)) (λ i l. not-feed i (h.0.before i (omega arith) l)) (λ _. h.1) in
      record {
        lines = rw (← its, add-one) (cut_off block (omega (arith, its, k)));
        size = omega (arith, k, length-take-le end block (omega (arith, k)), length-drop (end + 1) block);
      }

  pub no-line : IsFirstByte (is_byte feed) block None → lines_in block ≡ rest block
  no-line h = all_rest block (feed-at (length block) (omega arith) (λ i l. not-feed i (h i (omega arith) l)) (λ l. absurd (omega arith)))
