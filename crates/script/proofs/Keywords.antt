-- A field that is a keyword, told by the bytes of the keyword and the tab behind it; and what a line says whose keyword no field follows.
use mathlib.Core.Bool.{Bool, true, false, ◌&&◌, cond, true≢false, false≢true}
use mathlib.Core.List.{List, [], ◌∷◌, ◌++◌}
use mathlib.Core.Logic.{◌⊎◌, inl, inr}
use mathlib.Core.Path.{◌≡◌, refl, sym, ap, ap₂, ◌∙◌}
use Prim.Native.Nat.{ℕ, suc, ◌+◌, ◌≤◌, ◌<◌}
use native.Mathlib.Omega.{arith}
use borrow.Author.Tests.{eq-eqb, lt-ltb, eqb-true, eqb-false, ltb-true, ltb-false}
use lib.Dec.{eqb, ltb, lit<}
use lib.ListN.{length, get_or, take, drop, length-drop}
use lib.Seq.{get_or-drop, get_or-take, take_all, take-suc, take-take, take-append_seam}
use Rattle.std.specs.Prelude.{Option, Some, None}
use Rattle.device.specs.declared.event.Event.TheVariants.{Reset}
use Rattle.device.specs.declared.event.Block.{Block}
use Rattle.device.specs.declared.event.Block.TheVariants.{Rifsc, Iac, Risaf}
use Rattle.print.specs.Bytes.{bytes}
use Rattle.script.specs.Command.{◌>>=◌, by_keyword, command_in, lines_of, reset_line, blocks_of, request_fields, register_line, peripheral_line, memory_line, master_line, map_line, rights_fields}
use Rattle.script.specs.Fields.{tab, field_at, fields_of, onto, same}
use Rattle.script.specs.Numbers.{decimal_of}
use Rattle.script.specs.Places.{rest_at, field_from, end_from, ends_at, begins_at, Starts}
use Rattle.script.specs.declared.command.Command.{Command}
use Rattle.script.specs.declared.command.Command.TheVariants.{Event}
use Rattle.script.proofs.Places.{Field, field, field-bytes, field_of, no_tabs, some-there, starts-begin, starts-field, starts-next, its-count, other-count}
use Rattle.script.proofs.Readings.{fewer}
use Rattle.script.proofs.Told.{both_true}

same-is : (s t : List ℕ) → same s t ≡ true → s ≡ t
unfolding same
same-is [] [] h = refl
same-is [] (b ∷ t) h = absurd (false≢true h)
same-is (a ∷ s) [] h = absurd (false≢true h)
same-is (a ∷ s) (b ∷ t) h = go (eqb a b) refl h (same-is s t)
  where
    go : (u : Bool) → eqb a b ≡ u → (u && same s t) ≡ true → (same s t ≡ true → s ≡ t) → a ∷ s ≡ b ∷ t
    go true e k f = ap₂ (λ (x : ℕ) (r : List ℕ). x ∷ r) (eqb-true a b e) (f k)
    go false e k f = absurd (false≢true k)

is_same : (s : List ℕ) → same s s ≡ true
unfolding same
is_same [] = refl
is_same (a ∷ s) = rw (eq-eqb a a refl) (is_same s)

last_byte : (word : List ℕ) (b : ℕ) → get_or (word ++ (b ∷ [])) (length word) 0 ≡ b
last_byte [] b = refl
last_byte (a ∷ word) b = last_byte word b

long-by : (word : List ℕ) (b : ℕ) → length (word ++ (b ∷ [])) ≡ suc (length word)
long-by [] b = refl
long-by (a ∷ word) b = ap suc (long-by word b)

module _ (line : List ℕ) (p : ℕ) (word : List ℕ) where
  -- the word and the tab behind it
  abbrev tabbed : List ℕ
  tabbed = word ++ (tab ∷ [])

  module _ (h : begins_at line p tabbed ≡ true) where
    there : take (suc (length word)) (drop p line) ≡ tabbed
    there = rw (long-by word tab) at (same-is (take (length tabbed) (drop p line)) tabbed h)

    within : p + length word < length line
    within = go (ltb (p + length word) (length line)) refl
      where
        go : (t : Bool) → ltb (p + length word) (length line) ≡ t → p + length word < length line
        go true e = ltb-true (p + length word) (length line) e
        go false e =
            let l = ltb-false (p + length word) (length line) e in
            let q = take_all (suc (length word)) (drop p line) (omega (arith, l, length-drop p line)) in
            absurd (omega (arith, l, ap length (sym q ∙ there), long-by word tab, length-drop p line))

    ends_there : ends_at line (p + length word) ≡ true
    ends_there =
        let e = sym (get_or-drop p line (length word) 0) ∙ sym (get_or-take (suc (length word)) (drop p line) (length word) 0 (omega arith))
        ∙ ap (λ (s : List ℕ). get_or s (length word) 0) there ∙ last_byte word tab in
        rw (lt-ltb (p + length word) (length line) within) (eq-eqb (get_or line (p + length word) 0) tab e)

    word-there : no_tabs word ≡ true → field_from line p ≡ word
    word-there t =
        let e : take (length word) (drop p line) ≡ word =
        sym (take-take (length word) (suc (length word)) (drop p line) (omega arith)) ∙ ap (take (length word)) there
        ∙ take-append_seam word (tab ∷ []) in
        field-bytes line p (length word) (field_of (length word) line p ends_there (rw e t)) ∙ e

    module _ {fs : List (List ℕ)} {k : ℕ} (s : Starts line fs k p) (plain : no_tabs word ≡ true) where
      pub word-field : field_at fs k ≡ word
      word-field = sym (starts-field s) ∙ word-there plain

      pub word_next : Starts line fs (suc k) (suc (p + length word))
      word_next =
          let e : end_from line p ≡ p + length word = ap (λ (w : List ℕ). p + length w) (word-there plain) in
          rw e at (starts-next s (omega (arith, within)))

  -- where the word and the tab are not, the field is another, or the line's last
  pub word-not : {fs : List (List ℕ)} {k : ℕ} → Starts line fs k p → 0 < length word → begins_at line p tabbed ≡ false
      → (same (field_at fs k) word ≡ false) ⊎ (length fs ≡ suc k)
  word-not {fs = fs} {k = k} s some h = go (same (field_at fs k) word) refl
    where
      ended : field_from line p ≡ word → length fs ≡ suc k
      ended e =
          let l : p ≤ length line = some-there line p (omega (arith, some, ap length e)) in
          let f = field line p l in
          let n : end_from line p ≡ p + length word = ap (λ (w : List ℕ). p + length w) e in
          let g : Field line p (length word) = rw (ap length e) at f in
          last (ltb (p + length word) (length line)) refl l n g
        where
          last : (t : Bool) → ltb (p + length word) (length line) ≡ t → p ≤ length line → end_from line p ≡ p + length word
              → Field line p (length word) → length fs ≡ suc k
          last true q l n g =
              let m = ltb-true (p + length word) (length line) q in
              let b : get_or line (p + length word) 0 ≡ tab = eqb-true (get_or line (p + length word) 0) tab (rw q at g.ends) in
              let w : take (suc (length word)) (drop p line) ≡ tabbed =
              take-suc (drop p line) (length word) 0 (omega (arith, m, length-drop p line))
              ∙ ap₂ (λ (x : List ℕ) (y : ℕ). x ++ (y ∷ [])) (sym (field-bytes line p (length word) g) ∙ e)
              (get_or-drop p line (length word) 0 ∙ b) in
              absurd (true≢false (sym (rw (long-by word tab, w) (is_same tabbed)) ∙ h))
          last false q l n g =
              let m = ltb-false (p + length word) (length line) q in
              eqb-true (length fs) (suc k) (its-count (starts-next s l) (omega (arith, n, m, g.within)))

      go : (t : Bool) → same (field_at fs k) word ≡ t → (same (field_at fs k) word ≡ false) ⊎ (length fs ≡ suc k)
      go false e = inl e
      go true e = inr (ended (starts-field s ∙ same-is (field_at fs k) word e))

-- ---- lines and blocks by their keyword

-- a keyword that is not there, or whose line is bad
past : (f word : List ℕ) (c : Option Command) (ls : List (List ℕ × Option Command)) → (same f word ≡ false) ⊎ (c ≡ None) → by_keyword f ls ≡ None
    → by_keyword f ((word, c) ∷ ls) ≡ None
unfolding by_keyword
past f word c ls (inl e) q = rw e q
past f word c ls (inr e) q = go (same f word)
  where
    go : (t : Bool) → cond t c (by_keyword f ls) ≡ None
    go true = e
    go false = q

none : (f : List ℕ) → by_keyword f [] ≡ None
unfolding by_keyword
none f = refl

on-right : {A B C : Type 0} → (B → C) → A ⊎ B → A ⊎ C
on-right g (inl a) = inl a
on-right g (inr b) = inr (g b)

-- no field follows the keyword
alone : (fs : List (List ℕ)) → length fs ≡ 1
    → (register_line fs ≡ None) × (peripheral_line fs ≡ None) × (memory_line fs ≡ None) × (master_line fs ≡ None) × (map_line fs ≡ None)
unfolding by_keyword blocks_of same peripheral_line memory_line master_line map_line
alone [] h = absurd (omega arith)
alone (f ∷ []) h = (refl, refl, refl, refl, refl)
alone (f ∷ g ∷ fs) h = absurd (omega arith)

-- nor the block
block-alone : (fs : List (List ℕ)) → length fs ≡ 2
    → (request_fields Rifsc 2 fs ≡ None) × (request_fields Iac 2 fs ≡ None)
    × ((decimal_of (field_at fs 2) >>= λ guard. request_fields (Risaf (record { 0 = guard })) 3 fs) ≡ None)
unfolding request_fields decimal_of
block-alone [] h = absurd (omega arith)
block-alone (f ∷ []) h = absurd (omega arith)
block-alone (f ∷ g ∷ []) h = (refl, refl, refl)
block-alone (f ∷ g ∷ i ∷ fs) h = absurd (omega arith)

-- ---- the blocks of a register line, whose field is at place p

module _ (line : List ℕ) (p : ℕ) (within : p ≤ suc (length line)) where
  -- the fields, with any keyword
  abbrev fs : List (List ℕ)
  fs = [] ∷ rest_at p line

  second : Starts line fs 1 p
  second = record { has = omega arith; within = within; rest = refl }

  -- and behind the block
  pub behind : (word : List ℕ) → no_tabs word ≡ true → begins_at line p (word ++ (tab ∷ [])) ≡ true → Starts line fs 2 (p + suc (length word))
  behind word plain h =
      let e : p + suc (length word) ≡ suc (p + length word) = omega arith in
      rw e (word_next line p word h second plain)

  pub is-block : (word : List ℕ) → no_tabs word ≡ true → begins_at line p (word ++ (tab ∷ [])) ≡ true
      → register_line fs ≡ by_keyword word (blocks_of fs)
  is-block word plain h = ap (λ (w : List ℕ). by_keyword w (blocks_of fs)) (word-field line p word h second plain)

  pub no_block : begins_at line p (bytes "rifsc\t") ≡ false → begins_at line p (bytes "iac\t") ≡ false → begins_at line p (bytes "risaf\t") ≡ false
      → register_line fs ≡ None
  unfolding blocks_of
  no_block a b c =
      past _ (bytes "rifsc") _ _ (on-right (λ e. (block-alone fs e).0) (word-not line p (bytes "rifsc") second (lit< tt) a))
      (past _ (bytes "iac") _ _ (on-right (λ e. (block-alone fs e).1) (word-not line p (bytes "iac") second (lit< tt) b))
      (past _ (bytes "risaf") _ _ (on-right (λ e. (block-alone fs e).2) (word-not line p (bytes "risaf") second (lit< tt) c)) (none _)))

-- what is asked of a block, by the fields behind it
pub request-third : {line : List ℕ} {p : ℕ} (b : Block) (fs : List (List ℕ)) → Starts line fs 2 p → request_fields b 2 fs ≡ request_fields b 0 (rest_at p line)
unfolding request_fields rights_fields
request-third b [] s = absurd (omega (arith, s.has))
request-third b (f ∷ []) s = absurd (omega (arith, s.has))
request-third b (f ∷ g ∷ more) s = rw (s.rest, fewer 2 5 more)

pub request-fourth : {line : List ℕ} {p : ℕ} (b : Block) (fs : List (List ℕ)) → Starts line fs 3 p → request_fields b 3 fs ≡ request_fields b 0 (rest_at p line)
unfolding request_fields rights_fields
request-fourth b [] s = absurd (omega (arith, s.has))
request-fourth b (f ∷ []) s = absurd (omega (arith, s.has))
request-fourth b (f ∷ g ∷ []) s = absurd (omega (arith, s.has))
request-fourth b (f ∷ g ∷ h ∷ more) s = rw (s.rest, fewer 3 5 more)

module _ (line : List ℕ) where
  first_field : Starts line (fields_of line) 0 0
  unfolding rest_at
  first_field = starts-begin line 0 (omega arith)

  -- `reset` is the whole line
  reset-line : (begins_at line 0 (bytes "reset") && eqb (length line) 5) ≡ true → line ≡ bytes "reset"
  reset-line h =
      let k = both_true (begins_at line 0 (bytes "reset")) (eqb (length line) 5) h in
      sym (take_all 5 line (omega (arith, eqb-true (length line) 5 k.1))) ∙ same-is (take 5 line) (bytes "reset") k.0

  pub reset-is : (begins_at line 0 (bytes "reset") && eqb (length line) 5) ≡ true → Some (Event Reset) ≡ command_in (fields_of line)
  unfolding by_keyword lines_of reset_line same fields_of onto
  reset-is h = sym (ap (λ (l : List ℕ). command_in (fields_of l)) (reset-line h))

  not-reset : (begins_at line 0 (bytes "reset") && eqb (length line) 5) ≡ false
      → (same (field_at (fields_of line) 0) (bytes "reset") ≡ false) ⊎ (reset_line (fields_of line) ≡ None)
  unfolding reset_line
  not-reset h = go (same (field_at (fields_of line) 0) (bytes "reset")) refl (eqb (length (fields_of line)) 1) refl
    where
      go : (t : Bool) → same (field_at (fields_of line) 0) (bytes "reset") ≡ t → (u : Bool) → eqb (length (fields_of line)) 1 ≡ u
          → (same (field_at (fields_of line) 0) (bytes "reset") ≡ false) ⊎ (reset_line (fields_of line) ≡ None)
      go false e u q = inl e
      go true e false q = inr (rw q)
      go true e true q =
          let w = starts-field first_field ∙ same-is (field_at (fields_of line) 0) (bytes "reset") e in
          let n = starts-next first_field (omega arith) in
          let f : Field line 0 5 = rw (ap length w) at (field line 0 (omega arith)) in
          whole (eqb (length line) 5) refl w f n q
        where
          whole : (t : Bool) → eqb (length line) 5 ≡ t → field_from line 0 ≡ bytes "reset" → Field line 0 5
              → Starts line (fields_of line) 1 (suc (end_from line 0)) → eqb (length (fields_of line)) 1 ≡ true
              → (same (field_at (fields_of line) 0) (bytes "reset") ≡ false) ⊎ (reset_line (fields_of line) ≡ None)
          whole true k w f n q =
              absurd
              (true≢false
              (sym (rw (sym (field-bytes line 0 5 f) ∙ w, k) (rw (is_same (bytes "reset")) refl)) ∙ h))
          whole false k w f n q =
              absurd (true≢false (sym q ∙ other-count n (λ z. eqb-false (length line) 5 k (omega (arith, z, ap length w)))))

  -- a line by its keyword, where the next field starts, and what it says by the fields from there on
  module _ (word : List ℕ) (plain : no_tabs word ≡ true) (h : begins_at line 0 (word ++ (tab ∷ [])) ≡ true) where
    pub line-by : command_in (fields_of line) ≡ by_keyword word (lines_of (fields_of line))
    line-by = ap (λ (w : List ℕ). by_keyword w (lines_of (fields_of line))) (word-field line 0 word h first_field plain)

    pub line-next : Starts line (fields_of line) 1 (suc (0 + length word))
    line-next = word_next line 0 word h first_field plain

    pub line-rest : {r : List (List ℕ)} → r ≡ rest_at (suc (0 + length word)) line → (says : List (List ℕ) → Option Command)
        → ((f : List ℕ) (fs : List (List ℕ)) → says ([] ∷ fs) ≡ says (f ∷ fs)) → says ([] ∷ r) ≡ says (fields_of line)
    line-rest {r = r} e says same = go (fields_of line) line-next.has (e ∙ line-next.rest)
      where
        go : (fs : List (List ℕ)) → 1 ≤ length fs → r ≡ drop 1 fs → says ([] ∷ r) ≡ says fs
        go [] h q = absurd (omega arith)
        go (f ∷ fs) h q = rw q (same f fs)

  pub no_line : begins_at line 0 (bytes "mem\t") ≡ false → begins_at line 0 (bytes "reg\t") ≡ false → begins_at line 0 (bytes "per\t") ≡ false
      → begins_at line 0 (bytes "dma\t") ≡ false → begins_at line 0 (bytes "map\t") ≡ false
      → (begins_at line 0 (bytes "reset") && eqb (length line) 5) ≡ false → command_in (fields_of line) ≡ None
  unfolding lines_of
  no_line mem reg per dma map reset =
      let s = first_field in
      let fs = fields_of line in
      past _ (bytes "reset") _ _ (not-reset reset)
      (past _ (bytes "reg") _ _ (on-right (λ e. (alone fs e).0) (word-not line 0 (bytes "reg") s (lit< tt) reg))
      (past _ (bytes "per") _ _ (on-right (λ e. (alone fs e).1) (word-not line 0 (bytes "per") s (lit< tt) per))
      (past _ (bytes "mem") _ _ (on-right (λ e. (alone fs e).2) (word-not line 0 (bytes "mem") s (lit< tt) mem))
      (past _ (bytes "dma") _ _ (on-right (λ e. (alone fs e).3) (word-not line 0 (bytes "dma") s (lit< tt) dma))
      (past _ (bytes "map") _ _ (on-right (λ e. (alone fs e).4) (word-not line 0 (bytes "map") s (lit< tt) map)) (none _))))))
