-- Writes that stay within a frame.
use Rattle.std.proofs.Common.{◌≡◌, ◌≢◌, ◌⊎◌, inl, inr, ℕ, ◌%◌, ◌<◌, List, [], length, set, length-set, true, false, Some, refl, sym, ◌∙◌, ap, subst, arith}
use Rattle.vol_image.proofs.Words.{AreMaps, ChangesMaps, Frames, Graph, Holds, Image, IsEntry, IsHeldBy, IsLoose, MapEntry, MayChange, Object, OwnsItself, Puid, RootsOwnThemselves, block_at, block_at-with_entry, cases_lt, entry_at, entry_in, entry_in-set, entry_in-with_entry_other, entry_in-with_entry_same, get_or-set_other, get_or-set_same, is_committed, is_fixed, length-with_entry, map_of, nat_tests, object_at, part_at, part_of, same_Some, same_or_not, set_past, stands_for, with_entry}
use Rattle.vol_image.proofs.Law.{framed_sight, same_blocks}
use Rattle.vol_image.proofs.Parts.{held_apart}

pub frames_begin : (a : Image) (g : Graph) → Holds a g → Frames a g a
frames_begin a g holds = record { size = refl; maps = holds.maps; own = holds.own; label = refl; fixed = λ n is. refl; held = λ n is. record { part = refl; content = refl }; standing = λ id o at bit n. refl }

-- ---- frames compose

-- a block of an object is one in each image of the frame, and the other way round
still_held : (a b : Image) (g : Graph) → Frames a g b → (n : ℕ) → IsHeldBy a g n → IsHeldBy b g n
still_held a b g frames n (id, o, at, is) = (id, o, at, same_blocks a b id.block n (framed_sight a b g id o at frames) is)

pub was_held : (a b : Image) (g : Graph) → Frames a g b → (n : ℕ) → IsHeldBy b g n → IsHeldBy a g n
was_held a b g frames n (id, o, at, is) = (id, o, at, same_blocks b a id.block n (sym (framed_sight a b g id o at frames)) is)

pub frames_then : (a b c : Image) (g : Graph) → Frames a g b → Frames b g c → Frames a g c
frames_then a b c g one two = record {
  size = two.size ∙ one.size;
  maps = two.maps;
  own = two.own;
  label = two.label ∙ one.label;
  fixed = λ n is. two.fixed n is ∙ one.fixed n is;
  held = λ n is.
      let first = one.held n is in
      let second = two.held n (still_held a b g one n is) in
      record { part = second.part ∙ first.part; content = second.content ∙ first.content };
  standing = λ id o at bit n. two.standing id o at (ap is_committed (one.held id.block (id, o, at, inl refl)).part ∙ bit) n ∙ one.standing id o at bit n;
}

-- some of the objects
pub frames_fewer : (a b : Image) (g h : Graph) → Frames a g b → ((x : Puid) (o : Object) → object_at h x ≡ Some o → object_at g x ≡ Some o) → Frames a h b
frames_fewer a b g h frames was = record {
  size = frames.size;
  maps = frames.maps;
  own = frames.own;
  label = frames.label;
  fixed = frames.fixed;
  held = λ n is. frames.held n (is.0, is.1, was is.0 is.1 is.2, is.3);
  standing = λ id o at. frames.standing id o (was id o at);
}

pub frames_back : (a b : Image) (g : Graph) → Holds a g → Frames a g b → Frames b g a
frames_back a b g holds frames = record {
  size = sym frames.size;
  maps = holds.maps;
  own = holds.own;
  label = sym frames.label;
  fixed = λ n is. sym (frames.fixed n is);
  held = λ n is. let same = frames.held n (was_held a b g frames n is) in record { part = sym same.part; content = sym same.content };
  standing = λ id o at bit n. sym (frames.standing id o at (ap is_committed (sym (frames.held id.block (id, o, at, inl refl)).part) ∙ bit) n);
}

-- ---- one write of the content

pub not_map : (n : ℕ) → is_fixed n ≡ false → n % 64 ≢ 0
not_map n is = λ (e : n % 64 ≡ 0). grind (arith, nat_tests)

pub not_label : (n : ℕ) → is_fixed n ≡ false → n ≢ 1
not_label n is = λ (e : n ≡ 1). grind (arith, nat_tests)

-- the content of a loose block
pub frames_content : (a : Image) (g : Graph) (c : Image) (n : ℕ) (block : List ℕ) → Frames a g c → IsLoose a g n → Frames a g (set c n block)
frames_content a g c n block frames loose =
    let entry : (m : ℕ) → entry_in (set c n block) m ≡ entry_in c m = λ m. entry_in-set c n block m (not_map n loose.apart) in
    record {
      size = length-set c n block ∙ frames.size;
      maps = λ m below. rw (entry m) (frames.maps m (omega (arith, below, length-set c n block)));
      own = λ m e is. frames.own m e (sym (entry m) ∙ is);
      label = get_or-set_other c n 1 block [] (λ is. not_label n loose.apart (sym is)) ∙ frames.label;
      fixed = λ m is. entry m ∙ frames.fixed m is;
      held = λ m is. record {
        part = ap part_of (entry m) ∙ (frames.held m is).part;
        content = get_or-set_other c n m block [] (λ same. loose.unheld (subst (IsHeldBy a g) same is)) ∙ (frames.held m is).content;
      };
      standing = λ id o at bit m. ap (stands_for id.block) (entry m) ∙ frames.standing id o at bit m;
    }

-- ---- entries

-- an image with one entry changed has maps
pub entry_maps : (c : Image) (n : ℕ) (e old : MapEntry) → AreMaps c → entry_in c n ≡ Some old → IsEntry e → AreMaps (with_entry c n e)
entry_maps c n e old maps was is m below = elim (same_or_not m n) [
  | inl same ↦ let here = entry_in-with_entry_same c n e old was is in rw (same, here) refl
  | inr apart ↦ rw (entry_in-with_entry_other c n e old m was apart) (maps m (omega (arith, below, length-with_entry c n e)))
]

pub entry_own : (c : Image) (n : ℕ) (e old : MapEntry) → RootsOwnThemselves c → entry_in c n ≡ Some old → IsEntry e → OwnsItself n e → RootsOwnThemselves (with_entry c n e)
entry_own c n e old own was is itself m f stands = elim (same_or_not m n) [
  | inl same ↦
      let one : e ≡ f = same_Some _ _ (sym (entry_in-with_entry_same c n e old was is) ∙ ap (entry_in (with_entry c n e)) (sym same) ∙ stands) in
      subst (λ (x : MapEntry). OwnsItself m x) one (subst (λ (k : ℕ). OwnsItself k e) (sym same) itself)
  | inr apart ↦ own m f (sym (entry_in-with_entry_other c n e old m was apart) ∙ stands)
]

not_fixed : (n : ℕ) → is_fixed n ≡ false → is_fixed n ≡ true → ⊥
not_fixed n free is = let no : true ≡ false = sym is ∙ free in cc

-- many entries at once
pub frames_maps : (a : Image) (g : Graph) (c b : Image) → Holds a g → Frames a g c → ChangesMaps a g c b → Frames a g b
frames_maps a g c b holds frames changes = record {
  size = changes.size ∙ frames.size;
  maps = changes.maps;
  own = changes.own;
  label = changes.contents 1 (λ is. cc) ∙ frames.label;
  fixed = λ n fix. elim (changes.entries n) [ inl same ↦ same | inr may ↦ absurd (not_fixed n may.apart fix) ] ∙ frames.fixed n fix;
  held = λ n held. record {
    part = elim (changes.entries n) [ inl same ↦ ap part_of same | inr may ↦ may.keeps held ] ∙ (frames.held n held).part;
    content = changes.contents n (not_map n (held_apart a g holds n held)) ∙ (frames.held n held).content;
  };
  standing = λ id o at bit n. elim (changes.entries n) [ inl same ↦ ap (stands_for id.block) same | inr may ↦ may.standing id o at bit ] ∙ frames.standing id o at bit n;
}

-- An entry, where no held block changes its part by it, and no shadow root of an object whose commit bit stands is made or ended.
pub frames_entry : (a : Image) (g : Graph) (c : Image) (n : ℕ) (e old : MapEntry) → Holds a g → Frames a g c → is_fixed n ≡ false → (IsHeldBy a g n → part_of (Some e) ≡ part_of (Some old)) → entry_in c n ≡ Some old → IsEntry e → OwnsItself n e
    → ((id : Puid) (o : Object) → object_at g id ≡ Some o → is_committed (part_at a id.block) ≡ true → stands_for id.block (Some e) ≡ stands_for id.block (Some old))
    → Frames a g (with_entry c n e)
frames_entry a g c n e old holds frames free keeps was is itself standing =
    frames_maps a g c (with_entry c n e) holds frames (record {
      size = length-with_entry c n e;
      maps = entry_maps c n e old frames.maps was is;
      own = entry_own c n e old frames.own was is itself;
      contents = λ m other. block_at-with_entry c n e m (λ same. other (omega (arith, same)));
      entries = λ m. elim (same_or_not m n) [
        | inl same ↦ inr (subst (λ (k : ℕ). MayChange a g k (entry_in c k) (entry_in (with_entry c n e) k)) (sym same)
            (rw (was, entry_in-with_entry_same c n e old was is) (record { apart = free; keeps = keeps; standing = standing })))
        | inr apart ↦ inl (entry_in-with_entry_other c n e old m was apart)
      ];
    })

-- ---- a block of one image of a frame, written into another

pub block_mixed : (c k : Image) (n m : ℕ) → (block_at (set c n (block_at k n)) m ≡ block_at c m) ⊎ (block_at (set c n (block_at k n)) m ≡ block_at k m)
block_mixed c k n m = elim (same_or_not m n) [
  | inr apart ↦ inl (get_or-set_other c n m (block_at k n) [] apart)
  | inl same ↦ elim (cases_lt n (length c)) [
    | inl below ↦ inr (rw same (get_or-set_same c n (block_at k n) [] below))
    | inr past ↦ inl (ap (λ (i : Image). block_at i m) (set_past c n (block_at k n) past))
  ]
]

pub entry_mixed : (c k : Image) (n m : ℕ) → (entry_in (set c n (block_at k n)) m ≡ entry_in c m) ⊎ (entry_in (set c n (block_at k n)) m ≡ entry_in k m)
unfolding entry_in
entry_mixed c k n m = elim (block_mixed c k n (map_of m)) [
  | inl is ↦ inl (ap (λ (x : List ℕ). entry_at x (m % 64)) is)
  | inr is ↦ inr (ap (λ (x : List ℕ). entry_at x (m % 64)) is)
]

pub frames_mix : (a : Image) (g : Graph) (c k : Image) (n : ℕ) → Frames a g c → Frames a g k → Frames a g (set c n (block_at k n))
frames_mix a g c k n one two =
    let size : length (set c n (block_at k n)) ≡ length c = length-set c n (block_at k n) in
    record {
      size = size ∙ one.size;
      maps = λ m below. elim (entry_mixed c k n m) [ inl is ↦ rw is (one.maps m (omega (arith, below, size))) | inr is ↦ rw is (two.maps m (omega (arith, below, size, one.size, two.size))) ];
      own = λ m e is. elim (entry_mixed c k n m) [ inl x ↦ one.own m e (sym x ∙ is) | inr x ↦ two.own m e (sym x ∙ is) ];
      label = elim (block_mixed c k n 1) [ inl is ↦ is ∙ one.label | inr is ↦ is ∙ two.label ];
      fixed = λ m fix. elim (entry_mixed c k n m) [ inl is ↦ is ∙ one.fixed m fix | inr is ↦ is ∙ two.fixed m fix ];
      held = λ m is. record {
        part = elim (entry_mixed c k n m) [ inl x ↦ ap part_of x ∙ (one.held m is).part | inr x ↦ ap part_of x ∙ (two.held m is).part ];
        content = elim (block_mixed c k n m) [ inl x ↦ x ∙ (one.held m is).content | inr x ↦ x ∙ (two.held m is).content ];
      };
      standing = λ id o at bit m. elim (entry_mixed c k n m) [
        | inl is ↦ ap (stands_for id.block) is ∙ one.standing id o at bit m
        | inr is ↦ ap (stands_for id.block) is ∙ two.standing id o at bit m
      ];
    }

-- A write into any image of the frame, of a block that leaves the content within the frame.
pub frames_write : (a : Image) (g : Graph) (c content : Image) (n : ℕ) (block : List ℕ) → n < length content → Frames a g c → Frames a g (set content n block) → Frames a g (set c n block)
frames_write a g c content n block below one two = subst (λ (x : List ℕ). Frames a g (set c n x)) (get_or-set_same content n block [] below) (frames_mix a g c (set content n block) n one two)
