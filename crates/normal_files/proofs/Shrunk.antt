-- A file that was set to less: what its root no longer leads to becomes Free, and then the store has the file.
use Rattle.normal_files.proofs.Words.{◌≡◌, ◌≢◌, ◌⊎◌, inl, inr, ℕ, ◌+◌, ◌*◌, ◌<◌, ◌≤◌, Bool, true, false, cond, List, [], length, set, get_or, Some, refl, sym, ◌∙◌, ap, subst, get_or-set_other, arith, nat_lt, length-set, both_ways, cases_eq, cases_lt, get_or_past, Image, block_at, IsSettled, left_now, Ghosts, Puid, Place, Leaf, Node, Root, node_spelling, root_spelling, AreCounts, Kept, entry_in, BlockState, Free, File, Object, Graph, object_at, with_object, same_puid, leaves_in, resized, filter-rises, object_at-with_object, rises-with_object, same_puid_is, same_puid_itself, Frames, IsBlockOf, IsLoose, BelongsTo, is_committed, part_at, part_of, sight, Holds, ReadsAs, carried, other_at, others, owned_is_loose, frames_hold, framed_sight, same_blocks, placed, begins, HasDraftIf, HasItsBlocks, ChangesOnly, of_owner, is_had, is_leaving, is_meant, is_owned_by, changes_begin, changes_then, free_unowned, changes_in_place, leaf_pointers, node_pointers, leaf_limit, leaves_at}
use Rattle.normal_files.specs.Cuts.{MayTrim, last_node, put_at, trimmed}
use Rattle.normal_files.specs.Frees.{Drops, IsDropped, IsFreed, IsFreeing, TakesNone, FreedLeaf, FreedNode}
use Rattle.normal_files.specs.Laid.{IsRooted, leaf_of, leaves_of, node_of}
use Rattle.normal_files.specs.Standing.{BecomesFile, IsPartly}
use Rattle.normal_files.specs.declared.cut.End.{End}
use Rattle.normal_files.proofs.Among.{places_differ}
use Rattle.normal_files.proofs.Ended.{either_e, either_left, gone_stays, is_trimmed, put_none, put_some, stay_before, x_own, y_own, IsCut}
use Rattle.normal_files.proofs.Laid.{tree_of_laid}
use Rattle.normal_files.proofs.Partly.{held_rises}
use Rattle.normal_files.proofs.Owned.{IsOwn, block_from_own, own_from_block}
use Rattle.normal_files.proofs.Trees.{near, none_below, same_leaves}
use Rattle.normal_files.proofs.Trimmed.{IsEitherWay, IsLed, IsTrimmed, KeepsEntries, either_partly, entries_begin, gives, led, set_content, shrunk_holds, shrunk_own, shrunk_partly, shrunk_parts, shrunk_rooted}
use Rattle.normal_files.proofs.Places.{one_leaf, one_node}
use Rattle.normal_files.specs.View.{FileView, id_at}
use Rattle.block_tree.specs.Along.{way_node}
use Rattle.block_tree.specs.declared.root.Root as roots
use Rattle.ufs_model.specs.declared.object.Object.TheVariants as objects

module _ {D : Type 0} {g : Ghosts D} {r : ℕ} {root : roots.Root} {start : D} {kept : Kept} {v : FileView g r root start kept} {size : ℕ} {end : End} (z : IsCut v size end) where
  abbrev a : Image
  a = g.content start

  abbrev id : Puid
  id = id_at r v.word

  abbrev e : Image
  e = trimmed a end

  abbrev next : roots.Root
  next = end.root

  abbrev pub b : Image
  b = set e r (root_spelling next)

  abbrev keep : ℕ
  keep = leaves_in size

  abbrev last : ℕ
  last = last_node size

  abbrev new_file : File
  new_file = resized v.file size

  abbrev pub after : Graph
  after = with_object v.graph id (objects.File new_file)

  t : IsTrimmed a id root next size e
  t = is_trimmed z

  way : IsEitherWay v.has e e
  way = either_e z

  led_now : IsLed a e root next size new_file
  led_now = led v.has z.less t

  b_rooted : IsRooted b id next
  b_rooted = shrunk_rooted v.has led_now way (λ m own. refl)

  b_parts : (m : ℕ) → IsOwn a id root m → part_at b m ≡ part_at a m
  b_parts = shrunk_parts v.has led_now way (λ m own. refl)

  pub b_holds : Holds b after
  b_holds = shrunk_holds v.has led_now way (λ m own. refl)

  b_own : (m : ℕ) → IsOwn b id next m → IsOwn a id root m
  b_own = shrunk_own v.has led_now way (λ m own. refl)

  -- ---- the images until the root is written

  pub left_partly : (c : Image) → MayTrim (left_now g start) end c → IsPartly c v.graph id v.file new_file
  left_partly c may = either_partly v.has z.less t (either_left z c may)

  pub root_partly : IsPartly b v.graph id v.file new_file
  root_partly = shrunk_partly v.has led_now way (λ m own. refl)

  -- and once it is
  pub framed_partly : (c : Image) → Frames b after c → IsPartly c v.graph id v.file new_file
  framed_partly c frames = record {
    file = new_file;
    holds = frames_hold b c after b_holds frames;
    between = record { kind = refl; fill = refl; size = inr refl; leaves = λ l. inr refl };
    either = record { rising = filter-rises (λ leaf. nat_lt leaf (leaves_in size)) v.file.held (held_rises root (leaves_of a root) v.file (gives v.has)); each = λ leaf has. inr has };
  }

  -- ---- what it no longer leads to

  file_at : object_at after id ≡ Some (objects.File new_file)
  file_at = object_at-with_object v.graph id (objects.File new_file) id ∙ ap (λ (x : Bool). cond x (Some (objects.File new_file)) (object_at v.graph id)) (same_puid_itself id)

  in_b : (m : ℕ) (p : Place) → IsOwn a id root m → BelongsTo r p (part_at a m) → BelongsTo r p (part_at b m)
  in_b m p own was = subst (BelongsTo r p) (sym (b_parts m own)) was

  is_dropped : (m : ℕ) (p : Place) → IsOwn a id root m → BelongsTo r p (part_at a m) → (IsOwn b id next m → ⊥) → IsDropped b after r p m
  is_dropped m p own was gone =
      let now = in_b m p own was in
      let others_loose = owned_is_loose b after id (objects.File new_file) b_holds file_at m (placed b m r p (part_at b m) refl now).taken in
      record {
        part = now;
        loose = record {
          apart = others_loose.apart;
          unheld = λ held. by held.0 held.1 held.2 held.3 (same_puid held.0 id) refl others_loose;
        };
      }
    where
      by : (x : Puid) (o : Object) → object_at after x ≡ Some o → IsBlockOf b x.block m → (q : Bool) → same_puid x id ≡ q → IsLoose b (others after id) m → ⊥
      by x o there block true same loose = gone (own_from_block b id next b_rooted m (subst (λ (y : Puid). IsBlockOf b y.block m) (same_puid_is x id same) block))
      by x o there block false apart loose = loose.unheld (x, o, other_at after id x o there apart, block)

  leaf_own : (q k : ℕ) → k < leaf_pointers.count → leaf_of a root q k ≢ 0 → IsOwn a id root (leaf_of a root q k)
  leaf_own q k small real = inr (inr (q, k, small, real, refl))

  node_own : (q : ℕ) → node_of root q ≢ 0 → IsOwn a id root (node_of root q)
  node_own q real = inr (inl (q, real, refl))

  -- what the next root leads to stands in image b as in image e
  b_node : (n : ℕ) → leaves_at b (node_of next n) ≡ leaves_at e (node_of next n)
  b_node n = same_leaves b e (node_of next n) (λ real. get_or-set_other e r (node_of next n) (root_spelling next) [] (λ same.
      (let clash = places_differ b _ _ r (Node n) Root (b_rooted.laid.nodes n real).part b_rooted.part same in cc)))

  b_pointer : (n k : ℕ) → leaf_of b next n k ≡ leaf_of e next n k
  b_pointer n k = ap (λ (ls : List ℕ). get_or ls k 0) (b_node n)

  leaf_gone : (q k : ℕ) → k < leaf_pointers.count → keep ≤ leaf_pointers.count * q + k → (real : leaf_of a root q k ≢ 0) → IsOwn b id next (leaf_of a root q k) → ⊥
  leaf_gone q k small past real own = by own
    where
      mine : BelongsTo r (Leaf (leaf_pointers.count * q + k)) (part_at b (leaf_of a root q k))
      mine = in_b _ _ (leaf_own q k small real) (v.has.rooted.laid.leaves q k small real).part

      by : IsOwn b id next (leaf_of a root q k) → ⊥
      by (inl same) = (let clash = places_differ b _ _ r (Leaf (leaf_pointers.count * q + k)) Root mine b_rooted.part same in cc)
      by (inr (inl (n, there, same))) = (let clash = places_differ b _ _ r (Leaf (leaf_pointers.count * q + k)) (Node n) mine (b_rooted.laid.nodes n there).part same in cc)
      by (inr (inr (n, j, low, there, same))) =
          let number = one_leaf _ _ (places_differ b _ _ r (Leaf (leaf_pointers.count * q + k)) (Leaf (leaf_pointers.count * n + j)) mine (b_rooted.laid.leaves n j low there).part same) in
          there (b_pointer n j ∙ t.next_late n j low (omega (arith, number, past)))

  node_gone : (q : ℕ) (real : node_of root q ≢ 0) → node_of next q ≡ 0 → IsOwn b id next (node_of root q) → ⊥
  node_gone q real none own = by own
    where
      mine : BelongsTo r (Node q) (part_at b (node_of root q))
      mine = in_b _ _ (node_own q real) (v.has.rooted.laid.nodes q real).part

      by : IsOwn b id next (node_of root q) → ⊥
      by (inl same) = (let clash = places_differ b _ _ r (Node q) Root mine b_rooted.part same in cc)
      by (inr (inl (n, there, same))) = let number = one_node _ _ (places_differ b _ _ r (Node q) (Node n) mine (b_rooted.laid.nodes n there).part same) in there (ap (node_of next) (sym number) ∙ none)
      by (inr (inr (n, j, low, there, same))) = (let clash = places_differ b _ _ r (Node q) (Leaf (leaf_pointers.count * n + j)) mine (b_rooted.laid.leaves n j low there).part same in cc)

  b_long : length b ≡ length a
  b_long = length-set e r (root_spelling next) ∙ t.long

  gone_content : (q : ℕ) → node_of root q ≢ 0 → node_of next q ≡ 0 → leaves_at b (node_of root q) ≡ leaves_at a (node_of root q)
  gone_content q real none =
      same_leaves b e (node_of root q) (λ some. get_or-set_other e r (node_of root q) (root_spelling next) [] (λ same.
      (let clash = places_differ a _ _ r (Node q) Root (v.has.rooted.laid.nodes q real).part v.has.rooted.part same in cc)))
      ∙ gone_stays z q real none

  some_block : 0 < length a
  some_block = omega (arith, v.has.holds.label.size_is, v.has.holds.label.is_label.some)

  pub drops : Drops a b after id root next keep
  drops = record {
    holds = b_holds;
    size = b_long;
    leaves = λ q k small past real. is_dropped _ _ (leaf_own q k small real) (v.has.rooted.laid.leaves q k small real).part (leaf_gone q k small past real);
    nodes = λ q real none. is_dropped _ _ (node_own q real) (v.has.rooted.laid.nodes q real).part (node_gone q real none);
    same = gone_content;
    near = near a (root_spelling root) root (record { good = v.has.rooted.laid.good; spelled = refl }) (length a) r root _ (tree_of_laid a (root_spelling root) root (record { good = v.has.rooted.laid.good; spelled = refl }) r refl v.has.rooted.laid) some_block;
  }

  -- ---- once the root is durable

  abbrev OnlyContents : Image → Type 0
  OnlyContents c = KeepsEntries v.has kept c

  put_content : (c : Image) (m : ℕ) (s : List ℕ) → (m ≢ 0 → IsOwn a id root m) → OnlyContents c → OnlyContents (put_at c m s)
  put_content c m s own was = elim (cases_eq m 0) [
    | inl none ↦ subst OnlyContents (sym (put_none c m s none)) was
    | inr some ↦ subst OnlyContents (sym (put_some c m s some)) (set_content v.has kept c m s (own some) was)
  ]

  contents : OnlyContents b
  contents = set_content v.has kept e r (root_spelling next) (inl refl)
      (put_content (put_at a end.cut end.content) end.kept (node_spelling (way_node end.next)) (y_own z)
      (put_content a end.cut end.content (x_own z)
      (entries_begin v.has kept v.store.counts)))

  none_freed : (m : ℕ) → IsFreed a root next keep keep last m → ⊥
  none_freed m (FreedLeaf q k small from to real here) = omega (arith, from, to)
  none_freed m (FreedNode q to real none here) = stay_before z q to real none

  pub freeing : (now : D) → IsSettled g now → g.content now ≡ b → IsFreeing g a b after id root next keep keep last now now kept
  freeing now settled same = record {
    within = begins g b after now settled same b_holds;
    entries = λ m. inl (ap (λ (i : Image). entry_in i m) same);
    free = λ m freed. absurd (none_freed m freed);
    contents = λ m no. ap (λ (i : Image). block_at i m) same;
    only = subst (ChangesOnly (λ x. of_owner r x) b) (sym same) (changes_begin _ b after b_holds);
    counts = subst (λ (i : Image). AreCounts i kept) (sym same) contents.counts;
  }

  -- ---- once all of it is Free

  module _ (mid now : D) (k1 : Kept) (was : IsFreeing g a b after id root next keep leaf_limit node_pointers.count mid now k1) where
    abbrev c : Image
    c = g.content now

    abbrev Freed : ℕ → Type 0
    Freed m = IsFreed a root next keep leaf_limit node_pointers.count m

    few_nodes : (n : ℕ) → node_of root n ≢ 0 → n < node_pointers.count
    few_nodes n real = elim (cases_lt n node_pointers.count) [ inl few ↦ few | inr past ↦ absurd (real (get_or_past root.nodes n 0 (omega (arith, past, v.has.rooted.laid.good.0.count)))) ]

    has_node : (n k : ℕ) → leaf_of a root n k ≢ 0 → node_of root n ≢ 0
    has_node n k real none = real (none_below a root n k none)

    -- a block of before is kept, or Free now
    kept_or_freed : (m : ℕ) → IsOwn a id root m → IsOwn b id next m ⊎ Freed m
    kept_or_freed m (inl same) = inl (inl same)
    kept_or_freed m (inr (inl (n, real, same))) = elim (cases_eq (node_of next n) 0) [
      | inl none ↦ inr (FreedNode n (few_nodes n real) real none same)
      | inr there ↦ inl (inr (inl (n, there, same ∙ sym (t.nodes n there))))
    ]
    kept_or_freed m (inr (inr (n, k, small, real, same))) = elim (cases_lt (leaf_pointers.count * n + k) keep) [
      | inl early ↦
          let stays : leaf_of b next n k ≡ leaf_of a root n k = b_pointer n k ∙ t.next_early n k small early in
          inl (inr (inr (n, k, small, λ none. real (sym stays ∙ none), same ∙ sym stays)))
      | inr past ↦ let few = few_nodes n (has_node n k real) in inr (FreedLeaf n k small past (omega (arith, few, small)) real same)
    ]

    freed_gone : (m : ℕ) → Freed m → IsOwn b id next m → ⊥
    freed_gone m (FreedLeaf q k small past to real same) own = leaf_gone q k small past real (subst (IsOwn b id next) same own)
    freed_gone m (FreedNode q to real none same) own = node_gone q real none (subst (IsOwn b id next) same own)

    sight_same : sight c r ≡ sight b r
    sight_same = framed_sight b c after id (objects.File new_file) file_at was.within.content

    -- the entry of before, or Free
    entry_cases : (m : ℕ) → (entry_in c m ≡ entry_in a m) ⊎ Freed m
    entry_cases m = elim (was.entries m) [ inl same ↦ inl (same ∙ contents.entries m) | inr freed ↦ inr freed ]

    pub shrunk_entries : TakesNone a c
    shrunk_entries m = elim (entry_cases m) [ inl same ↦ inl same | inr freed ↦ inr (was.free m freed) ]

    none_of : (test : BlockState → Bool) → test Free ≡ false → ((m : ℕ) → is_owned_by test r (entry_in a m) ≡ false) → (m : ℕ) → is_owned_by test r (entry_in c m) ≡ false
    none_of test real none m = elim (entry_cases m) [ inl same ↦ ap (is_owned_by test r) same ∙ none m | inr freed ↦ free_unowned test real r (entry_in c m) (was.free m freed) ]

    has_now : HasItsBlocks a r → HasItsBlocks c r
    has_now has = record {
      no_bit = ap is_committed (ap part_of (elim (entry_cases r) [ inl same ↦ same | inr freed ↦ absurd (freed_gone r freed (inl refl)) ])) ∙ has.no_bit;
      each = λ m block.
          let own = own_from_block b id next b_rooted m (same_blocks c b r m (sym sight_same) block) in
          elim (entry_cases m) [
            | inl same ↦ ap (is_owned_by is_had r) same ∙ has.each m (block_from_own a id root v.has.rooted m (b_own m own))
            | inr freed ↦ absurd (freed_gone m freed own)
          ];
      no_other = λ m had. elim (entry_cases m) [
        | inr freed ↦ absurd (both_ways _ (free_unowned is_had refl r (entry_in c m) (was.free m freed)) had)
        | inl same ↦ elim (kept_or_freed m (own_from_block a id root v.has.rooted m (has.no_other m (sym (ap (is_owned_by is_had r) same) ∙ had)))) [
          | inl own ↦ same_blocks b c r m sight_same (block_from_own b id next b_rooted m own)
          | inr freed ↦ absurd (both_ways _ (free_unowned is_had refl r (entry_in c m) (was.free m freed)) had)
        ]
      ];
      none_leaves = none_of is_leaving refl has.none_leaves;
    }

    reads_now : ReadsAs (length a) id (sight c r) (objects.File new_file)
    reads_now = subst (λ (n : ℕ). ReadsAs n id (sight c r) (objects.File new_file)) (was.within.content.size ∙ b_long) ((frames_hold b c after b_holds was.within.content).objects id (objects.File new_file) file_at)

    pub shrunk_stores : BecomesFile g v.graph v.drafts id new_file start now k1
    shrunk_stores = record {
      store = record {
        carries = carried g after b mid now b_holds was.within;
        account = changes_in_place a c v.graph v.drafts id (objects.File v.file) (objects.File new_file) v.store.account v.has.at v.no_draft reads_now (has_now (v.store.account.objects id (objects.File v.file) v.has.at))
            (none_of is_meant refl (subst (HasDraftIf a id) v.no_draft (v.store.account.drafts id (objects.File v.file) v.has.at))) (changes_then _ a b c contents.only was.only);
        counts = was.counts;
        ordered = rises-with_object v.graph id (objects.File new_file) v.store.ordered;
      };
      only = changes_then _ a b c contents.only was.only;
    }
