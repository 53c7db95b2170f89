-- The size of a draft changed, while its leaves stay.
use Rattle.std.proofs.Common.{◌≡◌, ◌≢◌, inl, inr, ℕ, zero, suc, ◌+◌, ◌/◌, ◌%◌, ◌<◌, ◌≤◌, Bool, true, false, if◌then◌else◌, IsTrue, List, [], ◌∷◌, ◌++◌, length, get_or, refl, sym, ◌∙◌, ap, subst, arith}
use Rattle.special_files.proofs.Words.{BelongsTo, Draft, DraftBecomes, DraftView, Drafting, Drafts, File, Fits, Ghosts, HasDraft, Image, IsFullFor, IsRoot, IsTree, Kept, LeavesFit, Object, Puid, Refused, Resized, SetSize, bytes_held, changed_draft, changed_object, file_to_leaves, filter, filter-rises, first_level, fresh_after, fun_ext, grown_fit, grown_object, has_number, held_at, held_leaves, held_levels, held_nodes, in_filter, inner_levels, is_meant_for, is_some, le-leb, leaf_limit, leaf_pointers, leaves_below, levels_of, levels_standing, merged, missing, need_beside, next_levels, node_pointers, nothing_below, object_below, object_with, opened_as, passes, path_is, place_at, range_with_len, resize_anew, root_spelling, same_levels, same_numbers, set_in, shadow_need, shared, size_limit, size_of, standing_at, sum, to_filter, tree_in, tree_of, with_opened, within, written_anew}
use Rattle.cfs_base.specs.declared.kind.Kind.TheVariants as kinds
use Rattle.block_tree.specs.declared.root.Root as roots
use Rattle.ufs_model.specs.declared.object.Object.TheVariants as objects
use Rattle.special_files.proofs.Amid.{amid_begins}
use Rattle.special_files.proofs.Levels.{leaf_level, levels_are, node_level}
use Rattle.special_files.proofs.Marks.{below_flags, in_set, leaf_held, next_is, node_held, set-rises, within_none}
use Rattle.special_files.proofs.PutStore.{becomes_now}
use Rattle.special_files.proofs.Trees.{leaf_at, node_at}
use Rattle.special_files.proofs.View.{draft_of, no_index}
use Rattle.cfs_base.specs.declared.refusal.Refused.TheVariants as refusals
use Rattle.special_files.proofs.write.Writes.{becomes_as}

-- ---- the tree of a root of another size

module _ (image : Image) (root : roots.Root) (size : ℕ) (fits : Fits root) where
  abbrev pub resized_root : roots.Root
  resized_root = record root { size = size }

  fits_still : Fits resized_root
  fits_still = record { fill = fits.fill; word = fits.word; count = fits.count; nodes = fits.nodes }

  same_tree : (p : List ℕ) → tree_of image (root_spelling resized_root) p ≡ tree_of image (root_spelling root) p
  same_tree [] = refl
  same_tree (m ∷ []) = node_at image resized_root fits_still m ∙ sym (node_at image root fits m)
  same_tree (m ∷ j ∷ []) = leaf_at image resized_root fits_still m j ∙ sym (leaf_at image root fits m j)
  same_tree (m ∷ j ∷ i ∷ q) = nothing_below image (root_spelling resized_root) m j i q ∙ sym (nothing_below image (root_spelling root) m j i q)

  pub same_below : (p : List ℕ) → (tree_in image (root_spelling resized_root)).below p ≡ (tree_in image (root_spelling root)).below p
  same_below p = ap (held_at image) (same_tree p)

  pub same_leaf : (n : ℕ) → leaves_below image resized_root n ≡ leaves_below image root n
  same_leaf n =
      ap (λ (p : List ℕ). (tree_in image (root_spelling resized_root)).below p) (path_is (root_spelling resized_root) n) ∙ same_below (n / leaf_pointers.count ∷ n % leaf_pointers.count ∷ [])
      ∙ sym (ap (λ (p : List ℕ). (tree_in image (root_spelling root)).below p) (path_is (root_spelling root) n))

  same_standing : (test : ℕ → Bool) (k : ℕ) → get_or (levels_standing test (tree_in image (root_spelling root)) (length (levels_of (root_spelling root)))) k []
      ≡ get_or (levels_standing test (tree_in image (root_spelling resized_root)) (length (levels_of (root_spelling resized_root)))) k []
  same_standing test k =
      let old = tree_in image (root_spelling root) in
      let new = tree_in image (root_spelling resized_root) in
      let leaves : standing_at test old 2 ≡ standing_at test new 2 = leaf_level test old ∙ ap (λ (P : ℕ → Bool). filter P (range_with_len 0 leaf_limit)) (fun_ext (λ l. ap (passes test) (sym (same_below (l / leaf_pointers.count ∷ l % leaf_pointers.count ∷ []))))) ∙ sym (leaf_level test new) in
      let nodes : standing_at test old 1 ≡ standing_at test new 1 = node_level test old ∙ ap (λ (P : ℕ → Bool). filter P (range_with_len 0 node_pointers.count)) (fun_ext (λ n. ap (passes test) (sym (same_below (n ∷ []))))) ∙ sym (node_level test new) in
      ap (λ (ls : List (List ℕ)). get_or ls k []) (levels_are test old ∙ (λ i. leaves i ∷ nodes i ∷ []) ∙ sym (levels_are test new))

  pub sized_tree : (n owner : ℕ) (o : Object) → IsTree n owner (tree_in image (root_spelling root)) root o → IsRoot resized_root → LeavesFit resized_root (leaves_below image root)
      → IsTree n owner (tree_in image (root_spelling resized_root)) resized_root (object_below image resized_root)
  sized_tree n owner o tree good fit = record {
    spelled = record { good = (fits_still, good); spelled = refl };
    object = refl;
    on_disk = λ p h v. tree.on_disk p h (sym (same_below p) ∙ v);
    owned = λ p h v. subst (λ ls. BelongsTo owner (place_at ls p) h.part) (same_levels (root_spelling root) (root_spelling resized_root)) (tree.owned p h (sym (same_below p) ∙ v));
    within = λ m h is. fit.within m h (sym (same_leaf m) ∙ is);
    filled = λ m i h is small past. fit.filled m i h (sym (same_leaf m) ∙ is) small past;
    leads_on = λ p h v short.
        let more = tree.leads_on p h (sym (same_below p) ∙ v) (subst (λ ls. length p < length ls) (same_levels (root_spelling resized_root) (root_spelling root)) short) in
        (more.0, subst (λ o. IsTrue (is_some o)) (sym (same_below (p ++ more.0 ∷ []))) more.1);
  }

  -- a draft whose root has another size, which its leaves fit
  pub sized_draft : (id : Puid) (was : Drafting) (d : Draft) → was.root ≡ root → HasDraft image id (opened_as was d) → IsRoot resized_root → LeavesFit resized_root (leaves_below image root)
      → HasDraft image id (opened_as (record was { root = resized_root }) (record { object = object_below image resized_root; fresh = d.fresh }))
  sized_draft id was d here draft good fit =
      let had = subst (λ (r : roots.Root). HasDraft image id (opened_as (record was { root = r }) d)) here draft in
      record {
        own = had.own;
        same_kind = had.same_kind;
        same_word = had.same_word;
        tree = sized_tree (length image) id.block d.object had.tree good fit;
        shadow = had.shadow;
        fresh = λ k. had.fresh k ∙ same_standing (is_meant_for image id.block) k;
        no_other = λ m meant. elim (had.no_other m meant) [
          | inl shadow ↦ inl shadow
          | inr s ↦ inr (record { path = s.path; held = s.held; there = same_below s.path ∙ s.there; is = s.is })
        ];
      }

-- ---- fresh blocks, of which each is held

all_shared : (flags : List Bool) (held : List ℕ) → ((x : ℕ) → get_or flags x false ≡ true → has_number x held ≡ true) → shared (set_in flags) held ≡ set_in flags
all_shared flags held all = same_numbers _ _ (filter-rises (λ n. has_number n held) (set_in flags) (set-rises flags)) (set-rises flags)
    (λ x h. (in_filter (λ n. has_number n held) x (set_in flags) h).1) (λ x h. to_filter (λ n. has_number n held) x (set_in flags) (all x (in_set flags x h)) h)

within_first : (levels there : List (List ℕ)) → get_or (within levels there) 0 [] ≡ shared (get_or levels 0 []) (first_level there)
within_first [] there = sym (none_within there)
  where
    none_within : (there : List (List ℕ)) → shared [] (first_level there) ≡ []
    none_within there = refl
within_first (ns ∷ levels) there = refl

within_next : (levels there : List (List ℕ)) (k : ℕ) → get_or (within levels there) (suc k) [] ≡ get_or (within (next_levels levels) (next_levels there)) k []
within_next [] there k = refl
within_next (ns ∷ levels) there k = refl

-- ---- to more, or to the same

module _ {D : Type 0} {g : Ghosts D} {d0 : D} {k0 : Kept} {was : Drafting} (v : DraftView g d0 k0 was) (f : File) (file : v.draft.object ≡ objects.File f) (size : ℕ) (more : was.root.size ≤ size) (limit : size ≤ size_limit) where
  abbrev a : Image
  a = g.content d0

  abbrev now : Drafting
  now = record was { root = record was.root { size = size } }

  abbrev e : Draft
  e = record { object = object_below a now.root; fresh = v.draft.fresh }

  abbrev es : Drafts
  es = with_opened v.id (opened_as now e) v.ds

  draft : HasDraft a v.id (opened_as was v.draft)
  draft = draft_of v

  gives : object_with was.root (leaves_below a was.root) ≡ objects.File f
  gives = draft.tree.object ∙ file

  not_index : was.root.kind ≢ kinds.Index
  not_index = no_index was.root (leaves_below a was.root) f gives

  fit : LeavesFit was.root (leaves_below a was.root)
  fit = record { within = draft.tree.within; filled = draft.tree.filled }

  good : IsRoot now.root
  good = record { fill = draft.tree.spelled.good.1.fill; size = record { limit = limit; slots = λ is. absurd (not_index is) } }

  stands : HasDraft a v.id (opened_as now e)
  stands = sized_draft a was.root size draft.tree.spelled.good.0 v.id was v.draft refl draft good (grown_fit was.root (leaves_below a was.root) (leaves_below a was.root) size fit (λ n. refl) more)

  first : DraftBecomes g v.graph v.ds v.id e d0 d0 k0 now
  first = becomes_now g v.graph v.ds v.id v.object d0 d0 k0 k0 was now v.draft e v.store v.at v.opened (amid_begins g v.graph v.ds v.id v.object d0 k0 v.store v.at) stands refl refl v.opened.leaf_flags v.opened.node_flags v.opened.fresh

  object : changed_object (SetSize size) v.draft.object ≡ e.object
  object =
      ap (changed_object (SetSize size)) (sym draft.tree.object)
      ∙ sym (grown_object was.root (leaves_below a was.root) (leaves_below a now.root) size fit (λ n. ap bytes_held (same_leaf a was.root size draft.tree.spelled.good.0 n)) more not_index)

  size_is : size_of v.draft.object ≡ was.root.size
  size_is = ap size_of file ∙ (file_to_leaves was.root (leaves_below a was.root) f gives).size

  nothing_anew : written_anew (SetSize size) v.draft.object v.draft.fresh ≡ []
  nothing_anew = ap (λ (b : Bool). if b then [] else resize_anew (inner_levels v.draft.object) size (held_leaves v.draft.object) v.draft.fresh) (le-leb (size_of v.draft.object) size (omega (arith, size_is, more)))

  same_leaves : shared (get_or v.draft.fresh 0 []) (held_leaves e.object) ≡ get_or v.draft.fresh 0 []
  same_leaves =
      ap (λ (ns : List ℕ). shared ns (held_leaves e.object)) (v.opened.fresh 0)
      ∙ all_shared was.leaves (held_leaves e.object) (λ x flag. leaf_held a v.id es now e first.is_open stands x (below_flags was.leaves leaf_limit x v.opened.leaf_flags flag) flag) ∙ sym (v.opened.fresh 0)

  same_nodes : shared (get_or (next_levels v.draft.fresh) 0 []) (held_nodes e.object) ≡ get_or v.draft.fresh 1 []
  same_nodes =
      ap (λ (ns : List ℕ). shared ns (held_nodes e.object)) (next_is v.draft.fresh 0 ∙ v.opened.fresh 1)
      ∙ all_shared was.nodes (held_nodes e.object) (λ x flag. node_held a v.id es now e first.is_open stands x (below_flags was.nodes node_pointers.count x v.opened.node_flags flag) flag) ∙ sym (v.opened.fresh 1)

  same_fresh : (k : ℕ) → get_or (within v.draft.fresh (held_levels e.object)) k [] ≡ get_or v.draft.fresh k []
  same_fresh zero = within_first v.draft.fresh (held_levels e.object) ∙ same_leaves
  same_fresh (suc zero) = within_next v.draft.fresh (held_levels e.object) 0 ∙ within_first (next_levels v.draft.fresh) (next_levels (held_levels e.object)) ∙ same_nodes
  same_fresh (suc (suc j)) =
      within_next v.draft.fresh (held_levels e.object) (suc j) ∙ within_next (next_levels v.draft.fresh) (next_levels (held_levels e.object)) j
      ∙ within_none (next_levels (next_levels v.draft.fresh)) j ∙ sym (v.opened.fresh (suc (suc j)))

  all_fresh : (k : ℕ) → get_or (fresh_after (SetSize size) v.draft.object v.draft.fresh) k [] ≡ get_or v.draft.fresh k []
  all_fresh k =
      ap (λ (ls : List (List ℕ)). get_or (within (merged ls v.draft.fresh) (held_levels (changed_object (SetSize size) v.draft.object))) k []) nothing_anew
      ∙ ap (λ (p : Object). get_or (within v.draft.fresh (held_levels p)) k []) object ∙ same_fresh k

  -- it takes nothing but the shadow root
  need : need_beside (SetSize size) v.draft was ≡ shadow_need was
  need = ap (λ (ls : List (List ℕ)). missing ls v.draft.fresh + shadow_need was) nothing_anew ∙ zero_and (shadow_need was)
    where
      zero_and : (n : ℕ) → 0 + n ≡ n
      zero_and n = omega arith

  -- the draft is the model's
  pub grown_resized : (floor n : ℕ) → n ≡ shadow_need was → n + floor ≤ sum k0.free → Resized g v.graph v.ds v.id v.draft size floor d0 d0 k0 k0 was now
  grown_resized floor n is room = record {
    becomes = becomes_as g v.graph v.ds v.id v.object v.at d0 d0 k0 now e (changed_draft (SetSize size) v.draft) first object all_fresh;
    order = rw nothing_anew (record { mid = a; claimed = λ m. refl; left = λ m. inl refl });
    room = omega (arith, room, is, need);
  }

  pub grown_full : (floor n : ℕ) (x : Refused) → n ≡ shadow_need was → x ≡ refusals.Full (record { free = sum k0.free; need = n }) → sum k0.free < n + floor → IsFullFor size floor v.draft k0 was x
  grown_full floor n x same is less = record { is = is ∙ ap (λ (k : ℕ). refusals.Full (record { free = sum k0.free; need = k })) (same ∙ sym need); less = omega (arith, less, same, need) }
