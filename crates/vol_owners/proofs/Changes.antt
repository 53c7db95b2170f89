-- A change is made of changes of one entry or of one content.
use Rattle.std.proofs.Common.{◌≡◌, ◌≢◌, inl, inr, ℕ, List, [], set, length-set, Bool, true, false, Option, Some, refl, sym, ◌∙◌, ap, subst, arith}
use Rattle.vol_owners.proofs.Words.{AreMaps, ChangesOnly, Graph, Holds, Image, IsEntry, IsOpenTo, MapEntry, OwnsItself, RootsOwnThemselves, block_at-with_entry, both_ways, entry_in, entry_in-set, entry_in-with_entry_other, entry_in-with_entry_same, entry_maps, entry_own, get_or-set_other, is_fixed, length-with_entry, not_label, not_map, same_or_not, with_entry}

module _ (T : Option MapEntry → Bool) where
  pub changes_begin : (a : Image) (g : Graph) → Holds a g → ChangesOnly T a a
  changes_begin a g holds = record { size = refl; maps = holds.maps; own = holds.own; label = refl; fixed = λ n is. refl; entries = λ n. inl refl; contents = λ n is. inl refl }

  pub changes_then : (a b c : Image) → ChangesOnly T a b → ChangesOnly T b c → ChangesOnly T a c
  changes_then a b c one two = record {
    size = two.size ∙ one.size;
    maps = two.maps;
    own = two.own;
    label = two.label ∙ one.label;
    fixed = λ n is. two.fixed n is ∙ one.fixed n is;
    entries = λ n. elim (one.entries n) [
      | inl p ↦ elim (two.entries n) [ inl q ↦ inl (q ∙ p) | inr q ↦ inr (subst (IsOpenTo T) p q.0, q.1) ]
      | inr p ↦ elim (two.entries n) [ inl q ↦ inr (p.0, subst (IsOpenTo T) (sym q) p.1) | inr q ↦ inr (p.0, q.1) ]
    ];
    contents = λ n is. elim (one.contents n is) [
      | inr was ↦ inr was
      | inl p ↦ elim (two.contents n is) [
        | inl q ↦ inl (q ∙ p)
        | inr was ↦ inr (elim (one.entries n) [ inl same ↦ subst (IsOpenTo T) same was | inr both ↦ both.0 ])
      ]
    ];
  }

  -- one entry: a claim, a release, an intention, the bit, one entry of a sweep
  pub changes_entry : (c : Image) (n : ℕ) (e old : MapEntry) → AreMaps c → RootsOwnThemselves c → is_fixed n ≡ false → entry_in c n ≡ Some old → IsEntry e → OwnsItself n e
      → IsOpenTo T (Some old) → IsOpenTo T (Some e) → ChangesOnly T c (with_entry c n e)
  changes_entry c n e old maps own free was is itself before after = record {
    size = length-with_entry c n e;
    maps = entry_maps c n e old maps was is;
    own = entry_own c n e old own was is itself;
    label = block_at-with_entry c n e 1 (λ same. omega (arith, same));
    fixed = λ m fix. other m (λ same. both_ways _ free (ap is_fixed (sym same) ∙ fix));
    entries = λ m. elim (same_or_not m n) [
      | inl same ↦ inr (
        subst (λ (k : ℕ). IsOpenTo T (entry_in c k)) (sym same) (subst (IsOpenTo T) (sym was) before),
        subst (λ (k : ℕ). IsOpenTo T (entry_in (with_entry c n e) k)) (sym same) (subst (IsOpenTo T) (sym (entry_in-with_entry_same c n e old was is)) after),
      )
      | inr apart ↦ inl (other m apart)
    ];
    contents = λ m fix. inl (block_at-with_entry c n e m (λ same. not_map m fix (omega (arith, same))));
  }
    where
      other : (m : ℕ) → m ≢ n → entry_in (with_entry c n e) m ≡ entry_in c m
      other m apart = entry_in-with_entry_other c n e old m was apart

  -- one content, of a block that is Free or passes the test
  pub changes_content : (c : Image) (n : ℕ) (block : List ℕ) → AreMaps c → RootsOwnThemselves c → is_fixed n ≡ false → IsOpenTo T (entry_in c n) → ChangesOnly T c (set c n block)
  changes_content c n block maps own free is_open = record {
    size = length-set c n block;
    maps = λ m below. rw (entry m) (maps m (omega (arith, below, length-set c n block)));
    own = λ m e is. own m e (sym (entry m) ∙ is);
    label = get_or-set_other c n 1 block [] (λ is. not_label n free (sym is));
    fixed = λ m is. entry m;
    entries = λ m. inl (entry m);
    contents = λ m fix. elim (same_or_not m n) [
      | inl same ↦ inr (subst (λ (k : ℕ). IsOpenTo T (entry_in c k)) (sym same) is_open)
      | inr apart ↦ inl (get_or-set_other c n m block [] apart)
    ];
  }
    where
      entry : (m : ℕ) → entry_in (set c n block) m ≡ entry_in c m
      entry m = entry_in-set c n block m (not_map n free)

-- a change that passes a narrower test
pub changes_wider : (T U : Option MapEntry → Bool) (a b : Image) → ((entry : Option MapEntry) → T entry ≡ true → U entry ≡ true) → ChangesOnly T a b → ChangesOnly U a b
changes_wider T U a b wider changes = record {
  size = changes.size;
  maps = changes.maps;
  own = changes.own;
  label = changes.label;
  fixed = changes.fixed;
  entries = λ n. elim (changes.entries n) [ inl same ↦ inl same | inr both ↦ inr (open_to (entry_in a n) both.0, open_to (entry_in b n) both.1) ];
  contents = λ n is. elim (changes.contents n is) [ inl same ↦ inl same | inr was ↦ inr (open_to (entry_in a n) was) ];
}
  where
    open_to : (entry : Option MapEntry) → IsOpenTo T entry → IsOpenTo U entry
    open_to entry (inl free) = inl free
    open_to entry (inr two) = inr (two.0, wider entry two.1)
