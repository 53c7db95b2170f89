-- A draft whose root was written to its shadow root.
use Rattle.std.proofs.Common.{◌≡◌, ◌≢◌, inl, inr, ⊎_elim, ℕ, ◌%◌, ◌<◌, true, false, List, [], length, get_or, Some, None, Ok, Err, refl, sym, ◌∙◌, ap, subst, length-set}
use Rattle.special_files.proofs.Words.{All, AreOnDisk, CommitFails, DraftView, Drafting, Drafts, Ghosts, Graph, HasDraft, HasItsBlocks, HasTried, Holds, IfErr, Image, IsChanged, IsDraftTrouble, IsLeastFree, IsPlaced, IsReady, IsRootBlock, IsTree, Kept, Leaves, MakesAtMost, MapEntry, Object, OnlyReads, Opened, Puid, Result, Root, SameAt, ShadowRoot, StandsIn, StoreHas, Tells, Top, Tree, Trouble, WritesDraftBlock, Written, and_parts, block_at, both_ways, content_of, entry_in, entry_in-set, false≢true, far_root, fun_ext, had_not_meant, in_image, is_damage, is_meant, is_meant_for, is_owned_by, left_now, levels_of, levels_standing, not_map, object_at, one_root_block, opened_as, part_of, root_placed, root_spelling, same_Some, same_or_not, same_tree, shadow_apart, shadow_taken, stands_for, stands_meant, still_top, taken_apart, tree_in, trouble_after_try}
use Rattle.std.proofs.lemmas.List.{get_or-set_other, get_or-set_same}
use Rattle.cfs_base.specs.declared.refusal.Trouble.TheVariants as trouble
use Rattle.special_files.proofs.Amid.{IsAmid, amid_begins, amid_reads, write_leaves, wrote}
use Rattle.vol_owners.proofs.Drafts.{with_same}
use Rattle.special_files.proofs.PutStore.{store_goes_on}
use Rattle.block_tree.specs.declared.root.Root as roots
use Rattle.special_files.proofs.Begun.{own_tree}
pub use Rattle.cfs_base.proofs.Went.{makes_none as nothing_made}
use Rattle.special_files.proofs.commit.CommitRuns.{fails_after}
use Rattle.special_files.proofs.commit.CommitWhole.{IsInner, tree_inner}
use Rattle.special_files.proofs.Refusals.{still_as}
use Rattle.special_files.proofs.View.{draft_of}

-- ---- from the draft in memory to that on the disk

module _ (a b : Image) (g : Graph) (id : Puid) (was : Object) (d : Opened) (s : ℕ) (taken dropped : List ℕ) (holds : Holds a g) (at : object_at g id ≡ Some was) (has : HasItsBlocks a id.block) (draft : HasDraft a id d)
    (lists : IsChanged a id d taken dropped) (now_has : HasItsBlocks b id.block) (size : length b ≡ length a) (same : (m : ℕ) → m ≢ s → entry_in b m ≡ entry_in a m)
    (blocks : (m : ℕ) → m % 64 ≢ 0 → m ≢ s → block_at b m ≡ block_at a m) (stands : stands_for id.block (entry_in b s) ≡ true) (spelled : block_at b s ≡ root_spelling d.root)
    (shadow : (n : ℕ) → d.shadow ≡ Some n → n ≡ s) (apart : (n : ℕ) → IsInner a id.block n → n ≢ s) (now_holds : Holds b g) where
  new_inner : (n : ℕ) → StandsIn (tree_in a (content_of d)) n → IsInner a id.block n
  new_inner n h = tree_inner a (length a) id.block (content_of d) d.root d.draft.object draft.tree n h

  own_is : IsTree (length a) id.block (tree_in a (root_spelling d.own)) d.own was
  own_is = own_tree a (length a) id d.own was has (holds.objects id was at) draft.own

  same_at : (n : ℕ) → IsInner a id.block n → SameAt a b n
  same_at n is = record {
    part = ap part_of (same n (apart n is));
    content = blocks n (not_map n (taken_apart a g holds n id.block is.taken)) (apart n is);
  }

  same_tree_of : (content : List ℕ) (root : roots.Root) (o : Object) → IsTree (length a) id.block (tree_in a content) root o → tree_in b content ≡ tree_in a content
  same_tree_of content root o fits = same_tree a b content (λ path h there. same_at h.block (tree_inner a (length a) id.block content root o fits h.block (record { path = path; held = h; there = there; is = refl })))

  new_tree : tree_in b (block_at b s) ≡ tree_in a (content_of d)
  new_tree = ap (tree_in b) spelled ∙ same_tree_of (content_of d) d.root d.draft.object draft.tree

  -- the root isn't the shadow root
  not_root : id.block ≢ s
  not_root is =
      let meant = subst (λ (n : ℕ). is_owned_by is_meant id.block (entry_in b n) ≡ true) (sym is) (stands_meant id.block (entry_in b s) stands) in
      both_ways _ (had_not_meant id.block (entry_in b id.block) (now_has.each id.block (inl refl))) (and_parts _ _ meant).0

  root_same : block_at b id.block ≡ block_at a id.block
  root_same = blocks id.block (not_map id.block (taken_apart a g holds id.block id.block (root_placed a (length a) id was (holds.objects id was at)).taken)) not_root

  own_tree_now : tree_in b (block_at b id.block) ≡ tree_in a (root_spelling d.own)
  own_tree_now = ap (tree_in b) (root_same ∙ draft.own.spelled) ∙ same_tree_of (root_spelling d.own) d.own was own_is

  meant_same : (n : ℕ) → n ≢ s → is_meant_for b id.block n ≡ is_meant_for a id.block n
  meant_same n other = ap (is_owned_by is_meant id.block) (same n other)

  alone : (n : ℕ) → stands_for id.block (entry_in b n) ≡ true → n ≡ s
  alone n is = ⊎_elim (λ one. one) (λ other.
      let was_one = ap (stands_for id.block) (sym (same n other)) ∙ is in
      ⊎_elim (λ one. shadow n one) (λ in_tree. absurd (shadow_apart a (length a) id.block n (content_of d) d.root d.draft.object draft.tree was_one in_tree)) (draft.no_other n (stands_meant id.block (entry_in a n) was_one))) (same_or_not n s)

  ready : IsReady b g id was d.draft.object s taken dropped None
  ready = record {
    holds = now_holds;
    at = at;
    has = now_has;
    draft = record {
      alone = alone;
      stands = stands;
      shadow = d.root;
      same = λ root is.
          let own = one_root_block (block_at b id.block) root d.own is (subst (λ (c : List ℕ). IsRootBlock c d.own) (sym root_same) draft.own) in
          (draft.same_kind ∙ ap (λ (r : roots.Root). r.kind) (sym own), draft.same_word ∙ ap (λ (r : roots.Root). r.word) (sym own));
      tree = subst (λ (n : ℕ). IsTree n id.block (tree_in b (block_at b s)) d.root d.draft.object) (sym size) (subst (λ (t : Tree). IsTree (length a) id.block t d.root d.draft.object) (sym new_tree) draft.tree);
    };
    meant = λ n is. meant_same n (apart n (new_inner n (lists.takes.stands n is))) ∙ lists.takes.meant n is;
    stands = λ n is. subst (λ (t : Tree). StandsIn t n) (sym new_tree) (lists.takes.stands n is);
    all = λ n meant. ⊎_elim (λ one. inl one) (λ other. ⊎_elim (λ one. inl (shadow n one)) (λ there. inr there) (lists.takes.all n (sym (meant_same n other) ∙ meant))) (same_or_not n s);
    once = lists.takes.once;
    own = λ n is. subst (λ (t : Tree). StandsIn t n) (sym own_tree_now) (lists.drops.stands n is);
    gone = λ n is there. lists.drops.gone n is (subst (λ (t : Tree). StandsIn t n) new_tree there);
    others = λ n there. ⊎_elim (λ in_new. inl (subst (λ (t : Tree). StandsIn t n) (sym new_tree) in_new)) (λ is. inr is) (lists.drops.all n (subst (λ (t : Tree). StandsIn t n) own_tree_now there));
    dropped_once = lists.drops.once;
    made = λ c is. (let no : None ≡ Some c = is in cc);
  }

  -- with the draft's tree below the shadow root
  pub ready_with : IsReady b g id was d.draft.object s taken dropped None × (tree_in b (block_at b s) ≡ tree_in a (content_of d))
  ready_with = (ready, new_tree)

-- ---- the root written to the shadow root

module _ (a b : Image) (id : Puid) (d : Opened) (draft : HasDraft a id d) (size : length b ≡ length a) (entries : (m : ℕ) → entry_in b m ≡ entry_in a m) (root : block_at b id.block ≡ block_at a id.block) (tree : tree_in b (content_of d) ≡ tree_in a (content_of d)) where
  tests : is_meant_for a id.block ≡ is_meant_for b id.block
  tests = fun_ext (λ n. ap (is_owned_by is_meant id.block) (sym (entries n)))

  pub draft_same : HasDraft b id d
  draft_same = record {
    own = subst (λ (c : List ℕ). IsRootBlock c d.own) (sym root) draft.own;
    same_kind = draft.same_kind;
    same_word = draft.same_word;
    tree = subst (λ (n : ℕ). IsTree n id.block (tree_in b (content_of d)) d.root d.draft.object) (sym size) (subst (λ (t : Tree). IsTree (length a) id.block t d.root d.draft.object) (sym tree) draft.tree);
    shadow = λ s is. ap (stands_for id.block) (entries s) ∙ draft.shadow s is;
    fresh = λ k. draft.fresh k ∙ (λ i. get_or (levels_standing (tests i) (sym tree i) (length (levels_of (content_of d)))) k []);
    no_other = λ n meant. ⊎_elim (λ is. inl is) (λ at. inr (subst (λ (t : Tree). StandsIn t n) (sym tree) at)) (draft.no_other n (ap (is_owned_by is_meant id.block) (sym (entries n)) ∙ meant));
  }

-- The draft's root stands in the shadow root s, which was claimed where the draft had none. These are the blocks that its commit takes and drops.
pub record AtShadow {D : Type 0} {g : Ghosts D} {d0 : D} {k0 : Kept} {was : Drafting} (v : DraftView g d0 k0 was) (s : ℕ) (taken dropped : List ℕ) (d1 : D) (k1 : Kept) : Type 0 where
  pub amid : IsAmid g v.graph v.id d0 d1 k1
  pub ready : IsReady (g.content d1) v.graph v.id v.object v.draft.object s taken dropped None
  pub spelled : block_at (g.content d1) s ≡ root_spelling was.root
  pub tree : tree_in (g.content d1) (block_at (g.content d1) s) ≡ tree_in (g.content d0) (root_spelling was.root)
  pub claim : was.shadow ≡ None → IsLeastFree (g.content d0) s × (s % 64 ≢ 0) × (s ≢ v.id.block)

-- still so after reads
pub shadow_reads : {D : Type 0} {g : Ghosts D} {d0 d1 d2 : D} {k0 k1 : Kept} {was : Drafting} {v : DraftView g d0 k0 was} {s n : ℕ} {taken dropped : List ℕ} → AtShadow v s taken dropped d1 k1 → OnlyReads g n d1 d2 → AtShadow v s taken dropped d2 k1
shadow_reads {g = g} {d0} {d1} {d2} {k0} {k1} {v = v} {s} {n} {taken} {dropped} at reads = record {
  amid = amid_reads g v.graph v.ds v.id v.object d0 k0 v.store v.at d1 d2 k1 n at.amid reads;
  ready = subst (λ (i : Image). IsReady i v.graph v.id v.object v.draft.object s taken dropped None) (sym reads.content) at.ready;
  spelled = ap (λ (i : Image). block_at i s) reads.content ∙ at.spelled;
  tree = ap (λ (i : Image). tree_in i (block_at i s)) reads.content ∙ at.tree;
  claim = at.claim;
}

-- ---- a draft that has its shadow root

module _ {D : Type 0} {g : Ghosts D} {d0 : D} {k0 : Kept} {was : Drafting} (v : DraftView g d0 k0 was) {s : ℕ} (stood : was.shadow ≡ Some s) where
  draft : HasDraft (g.content d0) v.id (opened_as was v.draft)
  draft = draft_of v

  stands : stands_for v.id.block (entry_in (g.content d0) s) ≡ true
  stands = draft.shadow s stood

  shadow_is : IsPlaced (g.content d0) s v.id.block ShadowRoot
  shadow_is = shadow_taken (g.content d0) v.id.block s stands

  meant : is_meant_for (g.content d0) v.id.block s ≡ true
  meant = stands_meant v.id.block (entry_in (g.content d0) s) stands

  below : s < length (g.content d0)
  below = in_image (g.content d0) v.graph v.store.account.holds s shadow_is.taken.is shadow_is.taken.here

  real : s % 64 ≢ 0
  real = not_map s (taken_apart (g.content d0) v.graph v.store.account.holds s v.id.block shadow_is.taken)

  -- no node or leaf is the shadow root, and the root isn't either
  inner_apart : (n : ℕ) → IsInner (g.content d0) v.id.block n → n ≢ s
  inner_apart n is same = is.no_shadow (ap (λ (e : MapEntry). e.place) (same_Some _ _ (sym is.taken.here ∙ ap (entry_in (g.content d0)) same ∙ shadow_is.taken.here)) ∙ shadow_is.place_is)

  root_apart : v.id.block ≢ s
  root_apart same =
      let root = root_placed (g.content d0) (length (g.content d0)) v.id v.object (v.store.account.holds.objects v.id v.object v.at) in
      let no : Some Root ≡ Some ShadowRoot = sym root.place_is ∙ ap (λ (e : MapEntry). e.place) (same_Some _ _ (sym root.taken.here ∙ ap (entry_in (g.content d0)) same ∙ shadow_is.taken.here)) ∙ shadow_is.place_is in cc

  pub shadow_leaves : {d1 : D} {block : List ℕ} → Leaves g d0 d1 (Written (left_now g d0) s block) → Leaves g d0 d1 (λ c. Holds c v.graph)
  shadow_leaves {d1} {block} images = write_leaves g v.graph v.ds v.id v.object d0 k0 v.store v.at d0 d1 k0 s block (amid_begins g v.graph v.ds v.id v.object d0 k0 v.store v.at) meant below images

  module _ {d1 : D} {block : List ℕ} (write : WritesDraftBlock g s block d0 d1 (Ok (tt {0}))) where
    amid1 : IsAmid g v.graph v.id d0 d1 k0
    amid1 = wrote g v.graph v.ds v.id v.object d0 k0 v.store v.at d0 d1 k0 s block (amid_begins g v.graph v.ds v.id v.object d0 k0 v.store v.at) meant below write.images write.written write.told write.calls.same

    entries : (n : ℕ) → entry_in (g.content d1) n ≡ entry_in (g.content d0) n
    entries n = ap (λ (i : Image). entry_in i n) write.written ∙ entry_in-set (g.content d0) s block n real

    others : (n : ℕ) → n ≢ s → block_at (g.content d1) n ≡ block_at (g.content d0) n
    others n other = ap (λ (i : Image). block_at i n) write.written ∙ get_or-set_other (g.content d0) s n block [] other

    size : length (g.content d1) ≡ length (g.content d0)
    size = ap (length {A = List ℕ}) write.written ∙ length-set (g.content d0) s block

    tree : tree_in (g.content d1) (root_spelling was.root) ≡ tree_in (g.content d0) (root_spelling was.root)
    tree = same_tree (g.content d0) (g.content d1) (root_spelling was.root) (λ path h there. record {
      part = ap part_of (entries h.block);
      content = others h.block (inner_apart h.block (tree_inner (g.content d0) (length (g.content d0)) v.id.block (root_spelling was.root) was.root v.draft.object draft.tree h.block (record { path = path; held = h; there = there; is = refl })));
    })

    draft1 : HasDraft (g.content d1) v.id (opened_as was v.draft)
    draft1 = draft_same (g.content d0) (g.content d1) v.id (opened_as was v.draft) draft size entries (others v.id.block root_apart) tree

    pub store1 : StoreHas g v.graph v.ds d1 k0
    store1 = subst (λ (es : Drafts). StoreHas g v.graph es d1 k0) (with_same v.id (Some (opened_as was v.draft)) v.ds v.opened.alone) (store_goes_on g v.graph v.ds v.id v.object d0 d1 k0 k0 was was v.draft v.draft v.store v.at v.opened amid1 draft1 refl)

    -- the draft on that disk
    abbrev pub shadow_view : DraftView g d1 k0 was
    shadow_view = record { graph = v.graph; ds = v.ds; id = v.id; object = v.object; draft = v.draft; store = store1; at = v.at; opened = v.opened }

    -- the shadow root has what was written
    shadow_has : block_at (g.content d1) s ≡ block
    shadow_has = ap (λ (i : Image). block_at i s) write.written ∙ get_or-set_same (g.content d0) s block [] below

    pub shadow_stands : (taken dropped : List ℕ) → block ≡ root_spelling was.root → IsChanged (g.content d1) v.id (opened_as was v.draft) taken dropped → AtShadow v s taken dropped d1 k0
    shadow_stands taken dropped spelled lists = record {
      amid = amid1;
      ready = (ready_with (g.content d1) (g.content d1) v.graph v.id v.object (opened_as was v.draft) s taken dropped store1.account.holds v.at (store1.account.objects v.id v.object v.at) draft1 lists (store1.account.objects v.id v.object v.at) refl
          (λ n other. refl) (λ n is other. refl) (ap (stands_for v.id.block) (entries s) ∙ stands)
          (shadow_has ∙ spelled)
          (λ n is. same_Some _ _ (sym is ∙ stood))
          (λ n is. inner_apart n (record { taken = record { is = is.taken.is; here = sym (entries n) ∙ is.taken.here; taken = is.taken.taken; placed = is.taken.placed; owned = is.taken.owned }; no_root = is.no_root; no_shadow = is.no_shadow }))
          store1.account.holds).0;
      spelled = shadow_has ∙ spelled;
      tree = ap (tree_in (g.content d1)) (shadow_has ∙ spelled) ∙ tree;
      claim = λ none. (let no : Some s ≡ None = sym stood ∙ none in cc);
    }

-- ---- ends

module _ {D : Type 0} (g : Ghosts D) (at : Top) (old new : D) (kept : Kept) where
  pub fails_tried : HasTried g old new → (t : Trouble) → CommitFails g at old new kept t → IsDraftTrouble g at old new kept t
  fails_tried tried (trouble.Disk was) is = record { failed = is.1; tries = λ yes. tried; no_try = λ no. absurd (false≢true (sym no ∙ is.0)); untouched = λ no. absurd (false≢true (sym no ∙ is.0)) }
  fails_tried tried (trouble.Damaged damage) is = is

pub after_damage : (t : Trouble) → is_damage t ≡ false → is_damage (trouble_after_try t) ≡ false
after_damage (trouble.Disk tried) is = refl
after_damage (trouble.Damaged damage) is = is

pub below_all : (size : ℕ) (ns : List ℕ) → AreOnDisk size ns → All (λ n. n < size) ns
below_all n ns all = λ k d less. (all k d less).1

-- a call that was refused, after others of which the first tried something
pub finish_tried : {D : Type 0} (g : Ghosts D) (at : Top) (old mid new : D) (kept : Kept) (n t m s : ℕ) → MakesAtMost g n t old mid → (Tells g old → Tells g mid) → MakesAtMost g m s mid new → HasTried g old new → (r : Result (Unit {0}) Trouble) → IfErr r (CommitFails g (still_top at.block) mid new kept) → IfErr r (IsDraftTrouble g at old new kept)
finish_tried g at old mid new kept n t m s first on second tried (Ok u) is = tt
finish_tried g at old mid new kept n t m s first on second tried (Err e) is = still_as g at old new kept e (fails_tried g (still_top at.block) old new kept tried e (fails_after g (still_top at.block) old mid new kept n t m s first on second e is))

-- ---- nothing is done

-- no failure tells that nothing was tried, where something was
pub tried_apart : (t : Trouble) → trouble_after_try t ≢ trouble.Disk false
tried_apart (trouble.Disk tried) same = cc
tried_apart (trouble.Damaged damage) same = cc

pub finish_apart : {D : Type 0} (g : Ghosts D) (at : ℕ) (old new : D) (kept : Kept) (r : Result (Unit {0}) Trouble) → IfErr r (CommitFails g (still_top at) old new kept) → IfErr r (λ t. t ≢ trouble.Disk false)
finish_apart g at old new kept (Ok u) is = tt
finish_apart g at old new kept (Err (trouble.Disk true)) is = λ same. cc
finish_apart g at old new kept (Err (trouble.Disk false)) is = λ same. (let no : false ≡ true = is.0 in cc)
finish_apart g at old new kept (Err (trouble.Damaged damage)) is = λ same. cc

-- ---- a call that failed had tried a write or a barrier

pub far_apart : (at : ℕ) (t : Trouble) → t ≡ far_root at → t ≢ trouble.Disk false
far_apart at t is = λ same. let both : far_root at ≡ trouble.Disk false = sym is ∙ same in cc

pub known_apart : (t : Trouble) → t ≡ trouble.Disk true → t ≢ trouble.Disk false
known_apart t is = λ same. let both : trouble.Disk true ≡ trouble.Disk false = sym is ∙ same in cc

-- a shadow root is a block of the image
pub shadow_below : {D : Type 0} {g : Ghosts D} {disk : D} {space : Kept} {was : Drafting} (v : DraftView g disk space was) (s : ℕ) → was.shadow ≡ Some s → s < length (g.content disk)
shadow_below {g = g} {disk} v s stood =
    let is = shadow_taken (g.content disk) v.id.block s ((draft_of v).shadow s stood) in
    in_image (g.content disk) v.graph v.store.account.holds s is.taken.is is.taken.here
