-- By which block an object is read while a commit is unfinished.
use Rattle.std.proofs.Common.{◌≡◌, ◌⊎◌, inl, inr, ⊎_elim, ℕ, Bool, true, false, cond, List, [], ◌∷◌, length, set, Option, Some, None, refl, sym, ◌∙◌, ap, subst}
use Rattle.std.specs.Prelude.{◌==◌, ◌&&◌, filter, not}
use Rattle.std.specs.List.{range_with_len}
use Rattle.std.proofs.lemmas.Bool.{cases_Bool, eq-eqb, eqb-true, false_from_ne_true}
use Rattle.block_tree.proofs.Spellings.{one_root}
use Rattle.block_tree.specs.Root.{IsRootBlock, root_spelling}
use Rattle.block_tree.specs.declared.root.Root as roots
use Rattle.cfs_base.specs.Calls.{OnlyReads}
use Rattle.cfs_base.specs.Run.{Tells}
use Rattle.cyl_alloc.specs.Left.{LeftCommit, block_shown}
use Rattle.cyl_alloc.specs.Space.{Kept}
use Rattle.cyl_map.proofs.Mapped.{block_at-mapped}
use Rattle.cyl_map.specs.Mapped.{mapped}
use Rattle.intentions.proofs.Settled.{left_ends, left_on}
use Rattle.intentions.proofs.Reading.{image_holds, store_reads}
use Rattle.intentions.proofs.Words.{get_or-set_other, get_or-set_same, Ghosts, in_image, IsPlaced, not_map, Root, root_placed, taken_apart, Graph, Holds, Image, IsTree, Object, Puid, Settles, block_at, entry_in, first_or, object_at, part_of, same_puid, same_puid_is, source, stands_for, tree_in, without}
use Rattle.intentions.specs.Left.{GoesOn, IsShownAt, StoreIs, StoreWith, coming, copied_if, final_image, settled}
use Rattle.intentions.specs.Store.{StoreHas}
use Rattle.ufs_model.specs.Identifier.{is_among}
use Rattle.vol_image.proofs.AtRoot.{no_shadows}
use Rattle.vol_image.proofs.Graphs.{object_at-without}
use Rattle.vol_image.specs.Part.{is_committed, part_at}
use Rattle.vol_image.specs.Sight.{shadows, sight}
use Rattle.vol_owners.specs.Account.{Drafts}

-- the block has the content by which the object with root block r is read
abbrev ShowsAt : Image → (r at : ℕ) → Type 0
ShowsAt image r at = block_at image at ≡ block_at image (source image r)

-- ---- by which block an image has it read

first_passes : (p : ℕ → Bool) (r : ℕ) (ns : List ℕ) → (first_or r (filter p ns) ≡ r) ⊎ (p (first_or r (filter p ns)) ≡ true)
first_passes p r [] = inl refl
first_passes p r (n ∷ ns) = elim (p n) as (λ b. p n ≡ b → (first_or r (cond b (n ∷ filter p ns) (filter p ns)) ≡ r) ⊎ (p (first_or r (cond b (n ∷ filter p ns) (filter p ns))) ≡ true)) [
  | true ↦ λ yes. inr yes
  | false ↦ λ no. first_passes p r ns
] refl

-- its root, or a shadow root that stands for it
source_is : (b : Image) (r : ℕ) → (source b r ≡ r) ⊎ (stands_for r (entry_in b (source b r)) ≡ true)
unfolding shadows
source_is b r = elim (is_committed (part_at b r)) as (λ t. (first_or r (cond t (filter (λ n. stands_for r (entry_in b n)) (range_with_len 0 (length b))) []) ≡ r) ⊎ (stands_for r (entry_in b (first_or r (cond t (filter (λ n. stands_for r (entry_in b n)) (range_with_len 0 (length b))) []))) ≡ true)) [
  | true ↦ first_passes (λ n. stands_for r (entry_in b n)) r (range_with_len 0 (length b))
  | false ↦ inl refl
]

-- while it settles its root has that content, as the shadow root has
settles_shown : (c b : Image) (graph : Graph) (id : Puid) (s : ℕ) → Settles c graph id s b → ShowsAt b id.block id.block
settles_shown c b graph id s is = ⊎_elim (λ root. ap (block_at b) (sym root)) (λ stands. is.root ∙ sym is.shadow ∙ ap (block_at b) (sym (is.alone (source b id.block) stands))) (source_is b id.block)

-- and so has that of an object without the bit
bitless_shown : (b : Image) (r : ℕ) → is_committed (part_at b r) ≡ false → ShowsAt b r r
bitless_shown b r none = ap (λ (ss : List ℕ). block_at b (first_or r ss)) (sym (no_shadows b r none))

-- the parts of all others stay while one settles
others_part : (c b : Image) (graph : Graph) (id : Puid) (s : ℕ) → Settles c graph id s b → (x : Puid) (p : Object) → object_at graph x ≡ Some p → same_puid x id ≡ false → part_at b x.block ≡ part_at c x.block
others_part c b graph id s is x p at other =
    let apart : is_among x (id ∷ []) ≡ false = rw other refl in
    let there : object_at (without graph (id ∷ [])) x ≡ Some p = object_at-without graph (id ∷ []) x ∙ ap (λ (t : Bool). cond (not t) (object_at graph x) None) apart ∙ at in
    (is.frames.held x.block (x, p, there, inl refl)).part

-- ---- of what is left

module _ {D : Type 0} (g : Ghosts D) (graph : Graph) (d : D) (l : LeftCommit) (id : Puid) (o : Object) (root : id.block ≡ l.root) where
  abbrev image : Image
  image = g.content d

  -- its object is read by the shadow root before the copy, and by the root after it
  own_shown : (b : Bool) → GoesOn g b graph id o l d → ShowsAt image id.block (cond (not b) l.shadow id.block)
  own_shown false goes = ap (block_at image) (sym goes.1.source_is)
  own_shown true goes = settles_shown goes.0 image graph id l.shadow goes.2.content

  -- the parts of all others are those of the image that is to come
  others_stay : (b : Bool) → GoesOn g b graph id o l d → (x : Puid) (p : Object) → object_at graph x ≡ Some p → same_puid x id ≡ false → part_at image x.block ≡ part_at (mapped (settled l) (copied_if b l image)) x.block
  others_stay b goes x p at other =
      let c = left_on g graph d l id o root b goes in
      ap part_of (sym (c.1.entries x.block)) ∙ others_part c.0 (copied_if b l image) graph id l.shadow c.1.on x p at other
      ∙ sym (others_part c.0 (mapped (settled l) (copied_if b l image)) graph id l.shadow (left_ends g graph d l id o root b goes) x p at other)

-- ---- of the store

module _ {D : Type 0} (g : Ghosts D) (graph : Graph) (ds : Drafts) (d : D) (space : Kept) where
  pub store_tells : StoreIs g graph ds d space → Tells g d
  store_tells = with_left space.left
    where
      at : (b : Bool) (l : LeftCommit) (id : Puid) (o : Object) → GoesOn g b graph id o l d → Tells g d
      at false l id o goes = goes.0.tells
      at true l id o goes = goes.2.tells

      with_left : (w : Option LeftCommit) → StoreWith g graph ds d space w → Tells g d
      with_left None store = store.carries.tells
      with_left (Some l) has = at l.copied l has.going.id has.going.object has.going.goes

  pub store_holds : StoreIs g graph ds d space → Holds (g.content d) graph
  store_holds = with_left space.left
    where
      with_left : (w : Option LeftCommit) → StoreWith g graph ds d space w → Holds (g.content d) graph
      with_left None store = store.carries.holds
      with_left (Some l) has = image_holds g graph d space l has.going

  -- what it is where nothing is unfinished
  pub store_whole : space.left ≡ None → StoreHas g graph ds d space → StoreIs g graph ds d space
  store_whole none store = subst (StoreWith g graph ds d space) (sym none) store

  pub shown_whole : (id : Puid) (o : Object) (at : ℕ) → space.left ≡ None → StoreHas g graph ds d space → object_at graph id ≡ Some o → id.block ≡ at → IsShownAt g graph ds d space id o at
  shown_whole id o at none store there root = record {
    store = store_whole none store;
    there = there;
    shown = sym root ∙ ap (λ (w : Option LeftCommit). block_shown w id.block) (sym none);
  }

  -- whatever else is noted, where the store has all by itself
  pub shown_has : (id : Puid) (o : Object) → StoreHas g graph ds d space → object_at graph id ≡ Some o → IsShownAt g graph ds d (record space { left = None }) id o id.block
  shown_has id o store there = record {
    store = record { carries = store.carries; account = store.account; counts = record { size = store.counts.size; each = store.counts.each }; ordered = store.ordered };
    there = there;
    shown = refl;
  }

  shows_with : (id : Puid) (o : Object) → object_at graph id ≡ Some o → (w : Option LeftCommit) → StoreWith g graph ds d space w → ShowsAt (g.content d) id.block (block_shown w id.block)
  shows_with id o there None store = bitless_shown (g.content d) id.block (store.account.objects id o there).no_bit
  shows_with id o there (Some l) has = elim (cases_Bool (l.root == id.block)) [
    | inl same ↦ (
        let own : has.going.id.block ≡ id.block = has.going.root_is ∙ eqb-true l.root id.block same in
        let is = own_shown g graph d l has.going.id has.going.object has.going.root_is l.copied has.going.goes in
        subst (ShowsAt (g.content d) id.block) (sym (ap (λ (b : Bool). cond (b && not l.copied) l.shadow id.block) same))
        (subst (λ (r : ℕ). ShowsAt (g.content d) r (cond (not l.copied) l.shadow r)) own is))
    | inr other ↦ (
        let apart : same_puid id has.going.id ≡ false = false_from_ne_true _ (λ one. (
        let root : l.root ≡ id.block = sym has.going.root_is ∙ ap (λ (x : Puid). x.block) (sym (same_puid_is id has.going.id one)) in
        let yes : true ≡ false = sym (eq-eqb l.root id.block root) ∙ other in cc)) in
        let stays = others_stay g graph d l has.going.id has.going.object has.going.root_is l.copied has.going.goes id o there apart in
        subst (ShowsAt (g.content d) id.block) (sym (ap (λ (b : Bool). cond (b && not l.copied) l.shadow id.block) other))
        (bitless_shown (g.content d) id.block (ap is_committed stays ∙ (has.account.objects id o there).no_bit)))
  ]

  -- what is read there is what the root has once nothing is left
  pub end_root : (id : Puid) (o : Object) → StoreIs g graph ds d space → object_at graph id ≡ Some o → block_at (final_image g d space) id.block ≡ block_at (g.content d) (block_shown space.left id.block)
  end_root id o store there = with_left space.left
    where
      a : Image
      a = g.content d

      holds : Holds a graph
      holds = store_holds store

      root : IsPlaced a id.block id.block Root
      root = root_placed a (length a) id o (holds.objects id o there)

      copied : (b : Bool) (l : LeftCommit) → block_at (copied_if b l a) id.block ≡ block_at a (cond ((l.root == id.block) && not b) l.shadow id.block)
      copied true l = elim (l.root == id.block) as (λ t. block_at a id.block ≡ block_at a (cond (t && false) l.shadow id.block)) [ true ↦ refl | false ↦ refl ]
      copied false l = elim (cases_Bool (l.root == id.block)) [
        | inl same ↦ (
            let one : l.root ≡ id.block = eqb-true l.root id.block same in
            ap (λ (n : ℕ). block_at (set a n (block_at a l.shadow)) id.block) one ∙ get_or-set_same a id.block (block_at a l.shadow) [] (in_image a graph holds id.block root.taken.is root.taken.here)
            ∙ sym (ap (λ (t : Bool). block_at a (cond (t && true) l.shadow id.block)) same))
        | inr other ↦ (
            get_or-set_other a l.root id.block (block_at a l.shadow) [] (λ same. (let yes : true ≡ false = sym (eq-eqb l.root id.block (sym same)) ∙ other in cc))
            ∙ sym (ap (λ (t : Bool). block_at a (cond (t && true) l.shadow id.block)) other))
      ]

      with_left : (w : Option LeftCommit) → block_at (coming a w) id.block ≡ block_at a (block_shown w id.block)
      with_left None = refl
      with_left (Some l) = block_at-mapped (settled l) (copied_if l.copied l a) id.block (not_map id.block (taken_apart a graph holds id.block id.block root.taken)) ∙ copied l.copied l

-- ---- what is read

module _ {D : Type 0} {g : Ghosts D} {graph : Graph} {ds : Drafts} {d : D} {space : Kept} {id : Puid} {o : Object} {at : ℕ} (is : IsShownAt g graph ds d space id o at) where
  pub shown_tells : Tells g d
  shown_tells = store_tells g graph ds d space is.store

  -- the tree of the block is that of the object
  pub shown_tree : (root : roots.Root) × IsTree (length (g.content d)) id.block (tree_in (g.content d) (block_at (g.content d) at)) root o
  unfolding sight
  shown_tree =
      let reads = (store_holds g graph ds d space is.store).objects id o is.there in
      let shows = subst (ShowsAt (g.content d) id.block) (sym is.shown) (shows_with g graph ds d space id o is.there space.left is.store) in
      (reads.source, subst (λ (c : List ℕ). IsTree (length (g.content d)) id.block (tree_in (g.content d) c) reads.source o) (sym shows) reads.tree)

  -- whatever root was read there
  pub root_tree : (root : roots.Root) → IsRootBlock (block_at (g.content d) at) root → IsTree (length (g.content d)) id.block (tree_in (g.content d) (root_spelling root)) root o
  root_tree root is_root =
      let tree = shown_tree.1 in
      let same : shown_tree.0 ≡ root = one_root shown_tree.0 root tree.spelled.good is_root.good (sym tree.spelled.spelled ∙ is_root.spelled) in
      subst (λ (c : List ℕ). IsTree (length (g.content d)) id.block (tree_in (g.content d) c) root o) is_root.spelled
      (subst (λ (r : roots.Root). IsTree (length (g.content d)) id.block (tree_in (g.content d) (block_at (g.content d) at)) r o) same tree)

  -- and after calls that only read it is shown there still
  pub shown_reads : (e : D) (n : ℕ) → OnlyReads g n d e → IsShownAt g graph ds e space id o at
  shown_reads e n reads = record { store = store_reads g graph d e space n reads ds space.left is.store; there = is.there; shown = is.shown }
