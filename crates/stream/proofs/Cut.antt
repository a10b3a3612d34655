-- An input cut at its first feed.
use Rattle.std.proofs.Common.{◌≡◌, ℕ, suc, ◌<◌, ◌≤◌, Bool, true, false, cond, eqb, List, [], ◌∷◌, ◌++◌, length, take, drop, sym, refl, ap, ◌∙◌, append-nil, arith, take-append-drop}
use Rattle.stream.specs.Feeds.{feed_at}
use Rattle.stream.specs.Transcript.{Lines, before, feed, line, lines_in, rest}

-- the lines with p before the first
unfoldable pub headed : List ℕ → Lines → Lines
headed [] ls = ls
headed (b ∷ p) ls = before b (headed p ls)

pub headed-line : (p l : List ℕ) (more : Lines) → headed p (line l more) ≡ line (p ++ l) more
unfolding headed before
headed-line [] l more = refl
headed-line (b ∷ p) l more = rw (headed-line p l more)

pub headed-rest : (p l : List ℕ) → headed p (rest l) ≡ rest (p ++ l)
unfolding headed before
headed-rest [] l = refl
headed-rest (b ∷ p) l = rw (headed-rest p l)

pub headed-headed : (p q : List ℕ) (ls : Lines) → headed p (headed q ls) ≡ headed (p ++ q) ls
unfolding headed
headed-headed [] q ls = refl
headed-headed (b ∷ p) q ls = ap (before b) (headed-headed p q ls)

pub feed-within : (bs : List ℕ) → feed_at bs ≤ length bs
unfolding feed_at
feed-within [] = omega arith
feed-within (b ∷ bs) = go (eqb b feed) (feed-within bs)
  where
    go : (t : Bool) → feed_at bs ≤ length bs → cond t 0 (suc (feed_at bs)) ≤ length (b ∷ bs)
    go true h = omega arith
    go false h = omega (arith, h)

-- up to the feed and behind it
pub cut : (bs x : List ℕ) → feed_at bs < length bs → lines_in (take (suc (feed_at bs)) bs ++ x) ≡ line (take (feed_at bs) bs) (lines_in x)
unfolding feed_at lines_in before
cut [] x h = absurd (omega arith)
cut (b ∷ bs) x h = go (eqb b feed) refl (cut bs x)
  where
    go : (t : Bool) → eqb b feed ≡ t
        → (feed_at bs < length bs → lines_in (take (suc (feed_at bs)) bs ++ x) ≡ line (take (feed_at bs) bs) (lines_in x))
        → lines_in (take (suc (cond (eqb b feed) 0 (suc (feed_at bs)))) (b ∷ bs) ++ x) ≡ line (take (cond (eqb b feed) 0 (suc (feed_at bs))) (b ∷ bs)) (lines_in x)
    go true e more = rw e
    go false e more =
        let k : suc (feed_at bs) < length (b ∷ bs) = simp e at h in
        rw e (ap (before b) (more (omega (arith, k))))

pub cut_off : (bs : List ℕ) → feed_at bs < length bs → lines_in bs ≡ line (take (feed_at bs) bs) (lines_in (drop (suc (feed_at bs)) bs))
cut_off bs h = ap lines_in (sym (take-append-drop (suc (feed_at bs)) bs)) ∙ cut bs (drop (suc (feed_at bs)) bs) h

-- no feed
pub uncut : (bs x : List ℕ) → feed_at bs ≡ length bs → lines_in (bs ++ x) ≡ headed bs (lines_in x)
unfolding feed_at lines_in headed
uncut [] x h = refl
uncut (b ∷ bs) x h = go (eqb b feed) refl (uncut bs x)
  where
    go : (t : Bool) → eqb b feed ≡ t → (feed_at bs ≡ length bs → lines_in (bs ++ x) ≡ headed bs (lines_in x))
        → lines_in (b ∷ bs ++ x) ≡ before b (headed bs (lines_in x))
    go true e more =
        let k : 0 ≡ length (b ∷ bs) = simp e at h in
        absurd (omega (arith, k))
    go false e more =
        let k : suc (feed_at bs) ≡ length (b ∷ bs) = simp e at h in
        rw e (ap (before b) (more (omega (arith, k))))

pub all_rest : (bs : List ℕ) → feed_at bs ≡ length bs → lines_in bs ≡ rest bs
unfolding lines_in
all_rest bs h = ap lines_in (sym (append-nil bs)) ∙ uncut bs [] h ∙ headed-rest bs [] ∙ rw (append-nil bs)
