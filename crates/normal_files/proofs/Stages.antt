-- A file on its way from its leaves before a write to those after it, as its nodes come to lead to what was taken.
use Rattle.normal_files.proofs.Words.{◌≡◌, ◌≢◌, ◌⊎◌, inl, inr, ℕ, ◌+◌, ◌*◌, ◌/◌, ◌%◌, ◌<◌, ◌≤◌, true, false, List, length, set, get_or, Option, Some, None, refl, sym, ◌∙◌, ap, subst, arith, cases_Bool, cases_eq, ne_eqb, Image, Puid, Place, Node, Root, node_spelling, IsRootBlock, root_spelling, AreCounts, Kept, entry_in, patched, SetsSize, LeavesFit, bytes_held, File, Graph, leaves_in, Frames, IsLoose, BelongsTo, part_at, part_of, leaf_content, held_at, others, in_image, placed, frames_content, not_map, ChangesOnly, of_owner, changes_content, changes_then, leaf_pointers, leaves_at}
use Rattle.normal_files.specs.Laid.{IsAt, IsRooted, leaf_of, leaves_of, node_of}
use Rattle.block_tree.specs.Way.{with_node}
use Rattle.normal_files.specs.Links.{linked_image, linked_root}
use Rattle.normal_files.specs.Takes.{IsTakenTo, fresh_content}
use Rattle.normal_files.specs.Plans.{Plan}
use Rattle.normal_files.specs.declared.part.Part.{Part}
use Rattle.normal_files.proofs.Amid.{counts_content, taken_open}
use Rattle.normal_files.proofs.Among.{own_loose}
use Rattle.normal_files.proofs.Linked.{IsLinked, leaf_there, linked_rooted}
use Rattle.normal_files.proofs.Patched.{last, mixed_fits, next_touched, touched_is, whole}
use Rattle.normal_files.proofs.Ready.{IsReady, node_links, node_stays, other_bytes, pointer_stays, ready_spells, real_stays, root_links, still_ready, taken_bytes, taken_or}
use Rattle.normal_files.proofs.Trees.{each_leaf, leaf_stands}
use Rattle.normal_files.specs.View.{HasFile}
use Rattle.block_tree.specs.Along.{way_leaves}
use Rattle.block_tree.specs.declared.root.Root as roots

module _ {a : Image} {graph : Graph} {id : Puid} {f : File} {root : roots.Root} (has : HasFile a graph id f root) (offset : ℕ) (bytes : List ℕ) (inside : offset + length bytes ≤ length f.bytes) (base : Image) (kept : Kept) where
  -- the leaves once all is written
  abbrev pub end : ℕ → Option (List ℕ)
  end l = bytes_held (last has offset bytes inside l)

  abbrev pub begin : ℕ → Option (List ℕ)
  begin l = bytes_held (leaves_of a root l)

  -- an image with the entries of `base`, and a root by which the file is read: each leaf that was held is written
  pub record IsStage (c : Image) (r : roots.Root) : Type 0 where
    pub rooted_now : IsRooted c id r
    pub frames : Frames a (others graph id) c
    pub head : SetsSize root.size root r
    pub entries : (m : ℕ) → entry_in c m ≡ entry_in base m
    pub held : (l : ℕ) → leaves_of a root l ≢ None → bytes_held (leaves_of c r l) ≡ end l
    pub mixed : (l : ℕ) → (bytes_held (leaves_of c r l) ≡ begin l) ⊎ (bytes_held (leaves_of c r l) ≡ end l)
    pub nodes : (m : ℕ) → node_of root m ≢ 0 → node_of r m ≡ node_of root m
    pub pointers : (m k : ℕ) → k < leaf_pointers.count → leaf_of a root m k ≢ 0 → leaf_of c r m k ≡ leaf_of a root m k
    pub only : ChangesOnly (λ e. of_owner id.block e) a c
    pub counts : AreCounts c kept
    pub no_map : (m : ℕ) (p : Place) → BelongsTo id.block p (part_at c m) → m % 64 ≢ 0

  -- from one stage to the next the node of a part comes to lead to its leaves, and all else stays
  pub record Comes (c d : Image) (r s : roots.Root) (part : Part) (next : Plan) : Type 0 where
    pub stage : IsStage d s
    pub done : (k : ℕ) → IsTakenTo part part.leaves.to k → (bytes_held (leaves_of d s (leaf_pointers.count * part.number + k)) ≡ end (leaf_pointers.count * part.number + k)) × (leaf_of d s part.number k ≡ get_or next.node.leaves k 0)
    pub block : next.grown ≡ true → node_of s part.number ≡ next.block
    pub other_bytes : (m k : ℕ) → k < leaf_pointers.count → (m ≡ part.number → IsTakenTo part part.leaves.to k → ⊥) → bytes_held (leaves_of d s (leaf_pointers.count * m + k)) ≡ bytes_held (leaves_of c r (leaf_pointers.count * m + k))
    pub other_leaves : (m k : ℕ) → k < leaf_pointers.count → (m ≡ part.number → IsTakenTo part part.leaves.to k → ⊥) → leaf_of d s m k ≡ leaf_of c r m k
    pub other_nodes : (m : ℕ) → (next.grown ≡ true → m ≢ part.number) → node_of s m ≡ node_of r m
    pub ready : (other : Part) (more : Plan) → other.number ≢ part.number → IsReady c id r root.fill offset bytes other more → IsReady d id s root.fill offset bytes other more

  is_root : IsRootBlock (root_spelling root) root
  is_root = record { good = has.rooted.laid.good; spelled = refl }

  -- ---- leaves of before

  absent_leaf : (m k : ℕ) → k < leaf_pointers.count → leaf_of a root m k ≡ 0 → leaves_of a root (leaf_pointers.count * m + k) ≡ None
  absent_leaf m k small none = leaf_stands a (root_spelling root) root is_root m k small ∙ ap (held_at a) none

  -- what is put into a leaf that was absent is what it is to have
  pub fresh_end : (l : ℕ) → leaves_of a root l ≡ None → offset / 512 ≤ l → l < leaves_in (offset + length bytes) → end l ≡ Some (fresh_content root.fill l offset bytes)
  fresh_end l none from to =
      next_touched root.fill offset bytes (leaves_of a root) (whole has) l (touched_is root.fill offset bytes (leaves_of a root) (whole has) l from to)
      ∙ ap (λ o. Some (patched l offset bytes (leaf_content root.fill o))) none

  -- ---- one part

  module _ (c : Image) (r : roots.Root) (stage : IsStage c r) (part : Part) (next : Plan) (ready : IsReady c id r root.fill offset bytes part next) (touched : (k : ℕ) → IsTakenTo part part.leaves.to k → (offset / 512 ≤ leaf_pointers.count * part.number + k) × (leaf_pointers.count * part.number + k < leaves_in (offset + length bytes)))
      (own : way_leaves part.way ≡ leaves_at a (node_of root part.number)) (grown : next.grown ≡ true) where
    abbrev n : ℕ
    n = part.number

    taken_end : (k : ℕ) → IsTakenTo part part.leaves.to k → end (leaf_pointers.count * n + k) ≡ Some (fresh_content root.fill (leaf_pointers.count * n + k) offset bytes)
    taken_end k t = fresh_end (leaf_pointers.count * n + k) (absent_leaf n k t.small (ap (λ (ls : List ℕ). get_or ls k 0) (sym own) ∙ t.absent)) (touched k t).0 (touched k t).1

    module _ (d : Image) (s : roots.Root) (link : IsLinked c d id r s n next.block next.node.leaves) (frames : Frames a (others graph id) d) (only : ChangesOnly (λ e. of_owner id.block e) a d) (counts : AreCounts d kept) where
      new_bytes : (k : ℕ) → IsTakenTo part part.leaves.to k → bytes_held (leaves_of d s (leaf_pointers.count * n + k)) ≡ end (leaf_pointers.count * n + k)
      new_bytes k t = taken_bytes c id r root.fill offset bytes part next stage.rooted_now stage.no_map ready d s link k t ∙ sym (taken_end k t)

      old_bytes : (m k : ℕ) → k < leaf_pointers.count → (m ≡ n → IsTakenTo part part.leaves.to k → ⊥) → bytes_held (leaves_of d s (leaf_pointers.count * m + k)) ≡ bytes_held (leaves_of c r (leaf_pointers.count * m + k))
      old_bytes = other_bytes c id r root.fill offset bytes part next stage.rooted_now stage.no_map ready d s link

      -- a leaf was taken, or stays
      either : (m k : ℕ) → k < leaf_pointers.count → (bytes_held (leaves_of d s (leaf_pointers.count * m + k)) ≡ end (leaf_pointers.count * m + k)) ⊎ (bytes_held (leaves_of d s (leaf_pointers.count * m + k)) ≡ bytes_held (leaves_of c r (leaf_pointers.count * m + k)))
      either m k small = elim (cases_eq m n) [
        | inr apart ↦ inr (old_bytes m k small (λ e t. apart e))
        | inl is ↦ elim (taken_or part part.leaves.to k small) [
          | inl t ↦ inl (subst (λ (q : ℕ). bytes_held (leaves_of d s (leaf_pointers.count * q + k)) ≡ end (leaf_pointers.count * q + k)) (sym is) (new_bytes k t))
          | inr not ↦ inr (old_bytes m k small (λ e. not))
        ]
      ]

      at_leaf : (l : ℕ) → (bytes_held (leaves_of d s l) ≡ end l) ⊎ (bytes_held (leaves_of d s l) ≡ bytes_held (leaves_of c r l))
      at_leaf = each_leaf (λ q. (bytes_held (leaves_of d s q) ≡ end q) ⊎ (bytes_held (leaves_of d s q) ≡ bytes_held (leaves_of c r q))) either

      mixed_now : (l : ℕ) → (bytes_held (leaves_of d s l) ≡ begin l) ⊎ (bytes_held (leaves_of d s l) ≡ end l)
      mixed_now l = elim (at_leaf l) [ inl new ↦ inr new | inr old ↦ elim (stage.mixed l) [ inl was ↦ inl (old ∙ was) | inr now ↦ inr (old ∙ now) ] ]

      head_now : SetsSize root.size root s
      head_now = record { kind = link.head.kind ∙ stage.head.kind; fill = link.head.fill ∙ stage.head.fill; size = link.head.size ∙ stage.head.size }

      fit_now : LeavesFit s (leaves_of d s)
      fit_now = mixed_fits has offset bytes inside d s head_now mixed_now

      real_now : (m k : ℕ) → k < leaf_pointers.count → leaf_of a root m k ≢ 0 → leaf_of d s m k ≡ leaf_of a root m k
      real_now m k small real =
          let was = stage.pointers m k small real in
          real_stays c id r root.fill offset bytes part next stage.rooted_now stage.no_map ready d s link m k small (λ none. real (sym was ∙ none)) ∙ was

      pub comes : Comes c d r s part next
      comes = record {
        stage = record {
          rooted_now = linked_rooted c d id r s n next.block next.node.leaves stage.rooted_now stage.no_map link fit_now;
          frames = frames;
          head = head_now;
          entries = λ m. link.entries m ∙ stage.entries m;
          held = λ l some. elim (at_leaf l) [ inl new ↦ new | inr old ↦ old ∙ stage.held l some ];
          mixed = mixed_now;
          nodes = λ m real. let was = stage.nodes m real in node_stays c id r root.fill offset bytes part next stage.rooted_now stage.no_map ready d s link m (λ none. real (sym was ∙ none)) ∙ was;
          pointers = real_now;
          only = only;
          counts = counts;
          no_map = λ m p is. stage.no_map m p (subst (BelongsTo id.block p) (ap part_of (link.entries m)) is);
        };
        done = λ k t. (new_bytes k t, leaf_there c d id r s n next.block next.node.leaves stage.rooted_now stage.no_map link k);
        block = λ yes. link.node_here;
        other_bytes = old_bytes;
        other_leaves = pointer_stays c id r root.fill offset bytes part next stage.rooted_now stage.no_map ready d s link;
        other_nodes = λ m apart. link.node_other m (apart grown);
        ready = λ other more apart was. still_ready c id r root.fill offset bytes part next stage.rooted_now stage.no_map ready d s link other more apart was;
      }

    -- ---- as the calls link it

    own_at : (m : ℕ) (p : Place) → IsAt a id.block p m → IsLoose a (others graph id) m
    own_at m p is = own_loose has m p is.part

    -- a block of the file's own is written
    module _ (m : ℕ) (p : Place) (v : List ℕ) (was : IsAt a id.block p m) (now : BelongsTo id.block p (part_at c m)) where
      loose : IsLoose a (others graph id) m
      loose = own_at m p was

      pub own_frames : Frames a (others graph id) (set c m v)
      own_frames = frames_content a (others graph id) c m v stage.frames loose

      pub own_only : ChangesOnly (λ e. of_owner id.block e) a (set c m v)
      own_only = changes_then _ a c (set c m v) stage.only
          (changes_content (λ e. of_owner id.block e) c m v stage.only.maps stage.only.own loose.apart (taken_open c m id.block (placed c m id.block p (part_at c m) refl now).taken))

      pub own_counts : AreCounts (set c m v) kept
      own_counts = counts_content c kept m v (not_map m loose.apart) stage.counts

    module _ (same_had : node_of r n ≡ node_of root n) where
      limit : length a ≤ 4194304
      limit = omega (arith, has.holds.label.size_is, has.holds.label.is_label.at_most)

      abbrev d : Image
      d = linked_image c id.block r n next

      abbrev s : roots.Root
      s = linked_root r n next

      stood_image : node_of r n ≢ 0 → d ≡ set c next.block (node_spelling next.node)
      stood_image some = rw (grown, ne_eqb (node_of r n) 0 some) refl

      stood_root : node_of r n ≢ 0 → s ≡ r
      stood_root some = rw (grown, ne_eqb (node_of r n) 0 some) refl

      new_image : node_of r n ≡ 0 → d ≡ set c id.block (root_spelling (with_node r n next.block))
      new_image none = rw (grown, none) refl

      new_root : node_of r n ≡ 0 → s ≡ with_node r n next.block
      new_root none = rw (grown, none) refl

      pub linked_comes : Comes c d r s part next
      linked_comes = elim (cases_eq (node_of r n) 0) [
        | inr some ↦
            let there : IsAt a id.block (Node n) next.block = subst (IsAt a id.block (Node n)) (sym (ready.node_had some ∙ same_had)) (has.rooted.laid.nodes n (λ none. some (same_had ∙ none))) in
            let now : BelongsTo id.block (Node n) (part_at c next.block) = subst (λ (m : ℕ). BelongsTo id.block (Node n) (part_at c m)) (sym (ready.node_had some)) (stage.rooted_now.laid.nodes n some).part in
            let link = node_links c id r root.fill offset bytes part next stage.rooted_now stage.no_map ready some (ready_spells c id r root.fill offset bytes part next stage.rooted_now stage.no_map ready (omega (arith, limit, stage.frames.size))) in
            subst (λ (i : Image). Comes c i r s part next) (sym (stood_image some)) (subst (λ (q : roots.Root). Comes c (set c next.block (node_spelling next.node)) r q part next) (sym (stood_root some))
            (comes (set c next.block (node_spelling next.node)) r link (own_frames next.block (Node n) (node_spelling next.node) there now) (own_only next.block (Node n) (node_spelling next.node) there now) (own_counts next.block (Node n) (node_spelling next.node) there now)))
        | inl none ↦
            let below : id.block < length a = (let t = (placed a id.block id.block Root (part_at a id.block) refl has.rooted.part).taken in in_image a graph has.holds id.block t.is t.here) in
            let there : IsAt a id.block Root id.block = record { below = below; part = has.rooted.part } in
            let v = root_spelling (with_node r n next.block) in
            let link = root_links c id r root.fill offset bytes part next stage.rooted_now stage.no_map ready none (omega (arith, below, stage.frames.size)) in
            subst (λ (i : Image). Comes c i r s part next) (sym (new_image none)) (subst (λ (q : roots.Root). Comes c (set c id.block v) r q part next) (sym (new_root none))
            (comes (set c id.block v) (with_node r n next.block) link (own_frames id.block Root v there stage.rooted_now.part) (own_only id.block Root v there stage.rooted_now.part) (own_counts id.block Root v there stage.rooted_now.part)))
      ]

  -- ---- one part, whether a leaf of it was taken or none

  pub steps : (c : Image) (r : roots.Root) (stage : IsStage c r) (part : Part) (next : Plan) → (next.grown ≡ true → IsReady c id r root.fill offset bytes part next) → (next.grown ≡ false → (k : ℕ) → IsTakenTo part part.leaves.to k → ⊥)
      → ((k : ℕ) → IsTakenTo part part.leaves.to k → (offset / 512 ≤ leaf_pointers.count * part.number + k) × (leaf_pointers.count * part.number + k < leaves_in (offset + length bytes)))
      → (next.grown ≡ true → way_leaves part.way ≡ leaves_at a (node_of root part.number)) → (next.grown ≡ true → node_of r part.number ≡ node_of root part.number)
      → Comes c (linked_image c id.block r part.number next) r (linked_root r part.number next) part next
  steps c r stage part next ready none touched own had = elim (cases_Bool next.grown) [
    | inl grown ↦ linked_comes c r stage part next (ready grown) touched (own grown) grown (had grown)
    | inr not ↦
        let image : linked_image c id.block r part.number next ≡ c = rw not refl in
        let led : linked_root r part.number next ≡ r = rw not refl in
        subst (λ (i : Image). Comes c i r (linked_root r part.number next) part next) (sym image) (subst (λ (q : roots.Root). Comes c c r q part next) (sym led) (record {
          stage = stage;
          done = λ k t. absurd (none not k t);
          block = λ grown. (let clash = sym grown ∙ not in cc);
          other_bytes = λ m k small apart. refl;
          other_leaves = λ m k small apart. refl;
          other_nodes = λ m apart. refl;
          ready = λ other more apart was. was;
        }))
  ]
