-- States compared word by word, with a mask for each word, and so in memory.
use mathlib.Core.List.{List, [], ◌∷◌}
use mathlib.Core.Path.{◌≡◌, sym, ◌∙◌}
use Prim.Native.Nat.{ℕ}
use lib.ListN.{length, get_or}
use Rattle.words.proofs.Alike.{Each, none, more, each-get, each_set, each_take, each-drop, each_append, each_map, each-by}
use Rattle.rifsc.proofs.NamedBits as rifsc
use Rattle.iac.proofs.NamedWords as iac
use Rattle.risaf.specs.Contents.{guard_words, guard_from}
use Rattle.risaf.specs.Guards.{shape_of}
use Rattle.risaf.specs.declared.contents.Guard.{Guard}
use Rattle.risaf.proofs.NamedWords as risaf
use Rattle.risaf.proofs.NamedWords.{words-alike, from-alike}
use Rattle.device.specs.Layout.{head_sizes, guard_sizes, guards_at, cr_part, seccfgr_part, privcfgr_part, rcfglockr_part, rimccr_part, attr_part, ier_part, isr_part, line_part, count_part, state_words, parts_of, joined, layout, state_of}
use Rattle.device.specs.Named.{named_state}
use Rattle.device.specs.State.{State, guard_at, guard_of, with_guard}
use Rattle.device.proofs.NamedPlaces.{named-length, named-parts}

pub record Alike (R : ℕ → ℕ → ℕ → Type 0) (S s s' : State) : Type 0 where
  pub rifsc : rifsc.Alike R S.rifsc s.rifsc s'.rifsc
  pub iac : iac.Alike R S.iac s.iac s'.iac
  pub guards : Each (risaf.Alike R) S.guards s.guards s'.guards

-- ---- in memory

module _ {R : ℕ → ℕ → ℕ → Type 0} where
  parts-alike : {w m m' : List ℕ} (ns : List ℕ) → Each R w m m' → Each (Each R) (parts_of ns w) (parts_of ns m) (parts_of ns m')
  unfolding parts_of
  parts-alike [] e = none
  parts-alike (n ∷ ns) e = more (each_take e n) (parts-alike ns (each-drop e n))

  joined-alike : {ws ps qs : List (List ℕ)} → Each (Each R) ws ps qs → Each R (joined ws) (joined ps) (joined qs)
  unfolding joined
  joined-alike none = none
  joined-alike (more h t) = each_append h (joined-alike t)

  pub state-alike : {w m m' : List ℕ} → R 0 0 0 → Each R w m m' → Alike R (state_of w) (state_of m) (state_of m')
  unfolding state_of
  state-alike {w} {m} {m'} z e =
      let parts = parts-alike head_sizes e in
      record {
        rifsc =
            record {
              cr = each-get (each-get parts none cr_part) z 0;
              seccfgr = each-get parts none seccfgr_part;
              privcfgr = each-get parts none privcfgr_part;
              rcfglockr = each-get parts none rcfglockr_part;
              rimccr = each-get (each-get parts none rimccr_part) z 0;
              attr = each-get parts none attr_part;
            };
        iac =
            record {
              ier = each-get parts none ier_part;
              isr = each-get parts none isr_part;
              line = each-get (each-get parts none line_part) z 0;
              count = each-get (each-get parts none count_part) z 0;
            };
        guards = each_map guard_from (λ a x y r. from-alike z r) (parts-alike guard_sizes (each-drop e guards_at));
      }

  pub layout-alike : {S s s' : State} → Alike R S s s' → Each R (layout S) (layout s) (layout s')
  unfolding layout
  layout-alike r =
      let c = r.rifsc in
      each_append
      (joined-alike
      (more (more c.cr none)
      (more c.seccfgr
      (more c.privcfgr
      (more c.rcfglockr
      (more (more c.rimccr none)
      (more c.attr
      (more r.iac.ier
      (more r.iac.isr
      (more (more r.iac.line none)
      (more (more r.iac.count none) none)))))))))))
      (joined-alike (each_map guard_words (λ a x y g. words-alike g) r.guards))

  -- ---- guard n, and the state with another

  pub guard-alike : {S s s' : State} → R 0 0 0 → Alike R S s s' → (n : ℕ) → risaf.Alike R (guard_at S (shape_of n).place) (guard_of s n) (guard_of s' n)
  unfolding guard_of
  guard-alike z r n = each-get r.guards (from-alike z none) (shape_of n).place

  pub with-guard : {S s s' : State} {g g' : Guard} (n : ℕ) → Alike R S s s' → risaf.Alike R (guard_at S (shape_of n).place) g g'
      → Alike R S (with_guard s n g) (with_guard s' n g')
  unfolding with_guard
  with-guard n r e = record { rifsc = r.rifsc; iac = r.iac; guards = each_set r.guards (shape_of n).place (guard_from []) e }

-- ---- memory of a state's length, by its words

pub memory-alike : (R : ℕ → ℕ → ℕ → Type 0) (m m' : List ℕ) → R 0 0 0 → length m ≡ state_words → length m' ≡ state_words
    → ((i : ℕ) → R (get_or (layout named_state) i 0) (get_or m i 0) (get_or m' i 0)) → Alike R named_state (state_of m) (state_of m')
memory-alike R m m' z l l' r =
    rw named-parts at
    (state-alike {R = R} z (each-by 0 (layout named_state) m m' (l ∙ sym named-length) (l' ∙ sym named-length) r))
