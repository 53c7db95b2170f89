-- A file on its way to a smaller size: its leaves in each image, and the file that they give.
use Rattle.normal_files.proofs.Words.{◌≡◌, ◌≢◌, ◌⊎◌, inl, inr, ℕ, ◌+◌, ◌*◌, ◌/◌, ◌%◌, ◌<◌, ◌≤◌, List, [], length, set, get_or, Option, Some, None, refl, sym, ◌∙◌, ap, subst, get_or-set_other, get_or-set_same, arith, cases_eq, cases_lt, Image, block_at, Puid, Place, Leaf, Node, Root, IsGoodRoot, root_spelling, entry_in-set, cut, SetsSize, GivesFile, LeavesFit, Shrinks, bytes_held, cut_held, mixed_fit, content_is, same_fit, same_object, file_to_leaves, cut_fit, cut_object, SetSize, File, Graph, with_object, changed_object, leaves_in, resized, Frames, IsLoose, BelongsTo, SameAt, is_committed, part_at, part_of, object_with, Held, held_at, sight, Holds, ReadsAs, object_put, other_is, others, in_image, placed, held_there, frames_content, frames_fewer, not_map, held, AreCounts, Kept, entry_in, ChangesOnly, of_owner, changes_begin, changes_content, changes_then, leaf_pointers, leaves_at}
use Rattle.normal_files.specs.Laid.{IsAt, IsRooted, leaf_of, leaves_of, node_of}
use Rattle.normal_files.specs.Standing.{IsPartly}
use Rattle.normal_files.proofs.Among.{own_loose, places_differ}
use Rattle.normal_files.proofs.Laid.{rooted_reads}
use Rattle.normal_files.proofs.Owned.{IsOwn, block_from_own}
use Rattle.normal_files.proofs.Partly.{no_index, partly}
use Rattle.normal_files.proofs.Trees.{each_leaf, same_leaves, stands_at}
use Rattle.normal_files.proofs.Places.{leaf_no_root, node_no_root}
use Rattle.normal_files.proofs.Amid.{counts_content, taken_open}
use Rattle.normal_files.specs.View.{HasFile}
use Rattle.cfs_base.specs.declared.kind.Kind.TheVariants as kinds
use Rattle.block_tree.specs.declared.root.Root as roots
use Rattle.ufs_model.specs.declared.object.Object.TheVariants as objects

some_bytes : (image : Image) (p : ℕ) → p ≢ 0 → bytes_held (held_at image p) ≡ Some (block_at image p)
some_bytes image p some = ap bytes_held (held_there image p some)

-- the same bytes at a place in two images, absent in both or with the same content
alike : (i j : Image) (p q : ℕ) → p ≡ q → (q ≢ 0 → block_at i q ≡ block_at j q) → bytes_held (held_at i p) ≡ bytes_held (held_at j q)
alike i j p q same content = ap (λ (m : ℕ). bytes_held (held_at i m)) same ∙ elim (cases_eq q 0) [
  | inl none ↦ ap bytes_held (ap (held_at i) none) ∙ sym (ap bytes_held (ap (held_at j) none))
  | inr some ↦ some_bytes i q some ∙ ap Some (content some) ∙ sym (some_bytes j q some)
]

-- ---- a root that is to come

-- The next root leads, as image e has them, to blocks of this root alone, and leaves with such bytes give the new file.
pub record IsLed (a e : Image) (root next : roots.Root) (size : ℕ) (to : File) : Type 0 where
  pub good : IsGoodRoot next
  pub head : SetsSize size root next
  pub word : next.word ≡ root.word
  pub nodes : (n : ℕ) → node_of next n ≢ 0 → node_of next n ≡ node_of root n
  pub pointers : (n k : ℕ) → k < leaf_pointers.count → leaf_of e next n k ≢ 0 → leaf_of e next n k ≡ leaf_of a root n k
  pub leads : (n : ℕ) → node_of root n ≢ 0 → (k : ℕ) × (k < leaf_pointers.count) × (leaf_of e root n k ≢ 0)
  pub fits : (p : ℕ → Option Held) → ((l : ℕ) → bytes_held (p l) ≡ bytes_held (leaves_of e next l)) → LeavesFit next p
  pub object : (p : ℕ → Option Held) → ((l : ℕ) → bytes_held (p l) ≡ bytes_held (leaves_of e next l)) → object_with next p ≡ objects.File to

-- ---- an image that is trimmed

-- The last leaf of image a is cut in image e, and the pointers of the last node past it are gone, or still there where the
-- node is to go; the next root leads to the leaves of its size alone.
pub record IsTrimmed (a : Image) (id : Puid) (root next : roots.Root) (size : ℕ) (e : Image) : Type 0 where
  pub good : IsGoodRoot next
  pub head : SetsSize size root next
  pub word : next.word ≡ root.word
  pub long : length e ≡ length a
  pub root_kept : block_at e id.block ≡ block_at a id.block
  pub early : (n k : ℕ) → k < leaf_pointers.count → leaf_pointers.count * n + k < leaves_in size → leaf_of e root n k ≡ leaf_of a root n k
  pub late : (n k : ℕ) → k < leaf_pointers.count → leaves_in size ≤ leaf_pointers.count * n + k → (leaf_of e root n k ≡ leaf_of a root n k) ⊎ (leaf_of e root n k ≡ 0)
  pub leads : (n : ℕ) → node_of root n ≢ 0 → (k : ℕ) × (k < leaf_pointers.count) × (leaf_of e root n k ≢ 0)
  pub bytes : (n k : ℕ) → k < leaf_pointers.count → leaf_of a root n k ≢ 0 → (leaf_pointers.count * n + k ≡ size / 512 → size % 512 ≡ 0) → block_at e (leaf_of a root n k) ≡ block_at a (leaf_of a root n k)
  pub cut_bytes : (n k : ℕ) → k < leaf_pointers.count → leaf_of a root n k ≢ 0 → leaf_pointers.count * n + k ≡ size / 512 → size % 512 ≢ 0 → block_at e (leaf_of a root n k) ≡ cut size root.fill (block_at a (leaf_of a root n k))
  pub nodes : (n : ℕ) → node_of next n ≢ 0 → node_of next n ≡ node_of root n
  pub next_early : (n k : ℕ) → k < leaf_pointers.count → leaf_pointers.count * n + k < leaves_in size → leaf_of e next n k ≡ leaf_of a root n k
  pub next_late : (n k : ℕ) → k < leaf_pointers.count → leaves_in size ≤ leaf_pointers.count * n + k → leaf_of e next n k ≡ 0

module _ {a : Image} {graph : Graph} {id : Puid} {f : File} {root : roots.Root} (s : HasFile a graph id f root) where
  pub gives : GivesFile root (leaves_of a root) f
  gives = file_to_leaves root (leaves_of a root) f s.same

  pub a_file : root.kind ≢ kinds.Index
  a_file index = no_index f.kind (sym gives.kind ∙ index)

  -- ---- the file's own blocks

  pub belongs : (m : ℕ) → IsOwn a id root m → (p : Place) × BelongsTo id.block p (part_at a m)
  belongs m (inl is) = (Root, subst (λ (x : ℕ). BelongsTo id.block Root (part_at a x)) (sym is) s.rooted.part)
  belongs m (inr (inl (n, real, is))) = (Node n, subst (λ (x : ℕ). BelongsTo id.block (Node n) (part_at a x)) (sym is) (s.rooted.laid.nodes n real).part)
  belongs m (inr (inr (n, k, small, real, is))) = (Leaf (leaf_pointers.count * n + k), subst (λ (x : ℕ). BelongsTo id.block (Leaf (leaf_pointers.count * n + k)) (part_at a x)) (sym is) (s.rooted.laid.leaves n k small real).part)

  pub own_is_loose : (m : ℕ) → IsOwn a id root m → IsLoose a (others graph id) m
  own_is_loose m own = let two = belongs m own in own_loose s m two.0 two.1

  -- no entry is changed, and no content but the file's
  pub record KeepsEntries (kept : Kept) (c : Image) : Type 0 where
    pub entries : (n : ℕ) → entry_in c n ≡ entry_in a n
    pub only : ChangesOnly (λ x. of_owner id.block x) a c
    pub counts : AreCounts c kept

  pub entries_begin : (kept : Kept) → AreCounts a kept → KeepsEntries kept a
  entries_begin kept counts = record { entries = λ n. refl; only = changes_begin _ a graph s.holds; counts = counts }

  pub set_content : (kept : Kept) (c : Image) (m : ℕ) (v : List ℕ) → IsOwn a id root m → KeepsEntries kept c → KeepsEntries kept (set c m v)
  set_content kept c m v own was =
      let two = belongs m own in
      let taken = (placed a m id.block two.0 (part_at a m) refl two.1).taken in
      let apart = (own_is_loose m own).apart in
      record {
        entries = λ n. entry_in-set c m v n (not_map m apart) ∙ was.entries n;
        only = changes_then _ a c (set c m v) was.only (changes_content _ c m v was.only.maps was.only.own apart
            (taken_open c m id.block (record { is = taken.is; here = was.entries m ∙ taken.here; taken = taken.taken; placed = taken.placed; owned = taken.owned })));
        counts = counts_content c kept m v (not_map m apart) was.counts;
      }

  -- each of these is as in image a or as in image e
  pub record IsEitherWay (e c : Image) : Type 0 where
    pub frames : Frames a (others graph id) c
    pub parts : (m : ℕ) → IsOwn a id root m → part_at c m ≡ part_at a m
    pub blocks : (m : ℕ) → IsOwn a id root m → (block_at c m ≡ block_at a m) ⊎ (block_at c m ≡ block_at e m)

  pub either_begin : (e c : Image) → Frames a graph c → IsEitherWay e c
  either_begin e c frames = record {
    frames = frames_fewer a c graph (others graph id) frames (λ x p there. (other_is graph id x p there).0);
    parts = λ m own. (same m own).part;
    blocks = λ m own. inl (same m own).content;
  }
    where
      same : (m : ℕ) → IsOwn a id root m → SameAt a c m
      same m own = frames.held m (id, objects.File f, s.at, block_from_own a id root s.rooted m own)

  pub either_put : (e c : Image) (m : ℕ) (v : List ℕ) → IsEitherWay e c → IsOwn a id root m → m < length a → v ≡ block_at e m → IsEitherWay e (set c m v)
  either_put e c m v way own below is =
      let loose = own_is_loose m own in
      record {
        frames = frames_content a (others graph id) c m v way.frames loose;
        parts = λ b other. ap part_of (entry_in-set c m v b (not_map m loose.apart)) ∙ way.parts b other;
        blocks = λ b other. elim (cases_eq b m) [
          | inl same ↦ inr (ap (block_at (set c m v)) same ∙ get_or-set_same c m v [] (omega (arith, below, way.frames.size)) ∙ is ∙ ap (block_at e) (sym same))
          | inr apart ↦ elim (way.blocks b other) [
            | inl was ↦ inl (get_or-set_other c m b v [] apart ∙ was)
            | inr now ↦ inr (get_or-set_other c m b v [] apart ∙ now)
          ]
        ];
      }

  module _ {size : ℕ} {next : roots.Root} {e : Image} (led : IsLed a e root next size (resized f size)) where
    abbrev new : ℕ → Option Held
    new = leaves_of e next

    abbrev new_file : File
    new_file = resized f size

    new_fit : LeavesFit next new
    new_fit = led.fits new (λ l. refl)

    new_gives : GivesFile next new new_file
    new_gives = file_to_leaves next new new_file (led.object new (λ l. refl))

    -- ---- an image on the way, read by this root

    pub record IsOnWay (c : Image) (r : roots.Root) : Type 0 where
      pub frames : Frames a (others graph id) c
      pub parts : (m : ℕ) → IsOwn a id root m → part_at c m ≡ part_at a m
      pub here : block_at c id.block ≡ root_spelling r
      pub good : IsGoodRoot r
      pub word : r.word ≡ root.word
      pub head : SetsSize r.size root r
      pub sized : (r.size ≡ root.size) ⊎ (r.size ≡ size)
      pub nodes : (n : ℕ) → node_of r n ≢ 0 → node_of r n ≡ node_of root n
      pub pointers : (n k : ℕ) → k < leaf_pointers.count → leaf_of c r n k ≢ 0 → leaf_of c r n k ≡ leaf_of a root n k
      pub leads : (n : ℕ) → node_of r n ≢ 0 → (k : ℕ) × (k < leaf_pointers.count) × (leaf_of c r n k ≢ 0)
      pub mixed : (l : ℕ) → (bytes_held (leaves_of c r l) ≡ bytes_held (leaves_of a root l)) ⊎ (bytes_held (leaves_of c r l) ≡ bytes_held (new l))
      pub fit : LeavesFit r (leaves_of c r)

    module _ {c : Image} {r : roots.Root} (way : IsOnWay c r) where
      still_at : (m : ℕ) (p : Place) → IsOwn a id root m → IsAt a id.block p m → IsAt c id.block p m
      still_at m p own was = record { below = omega (arith, was.below, way.frames.size); part = subst (BelongsTo id.block p) (sym (way.parts m own)) was.part }

      pub way_rooted : IsRooted c id r
      way_rooted = record {
        laid = record {
          good = way.good;
          nodes = λ n real.
              let is = way.nodes n real in
              let there : node_of root n ≢ 0 = λ none. real (is ∙ none) in
              subst (IsAt c id.block (Node n)) (sym is) (still_at (node_of root n) (Node n) (inr (inl (n, there, refl))) (s.rooted.laid.nodes n there));
          leaves = λ n k small real.
              let is = way.pointers n k small real in
              let there : leaf_of a root n k ≢ 0 = λ none. real (is ∙ none) in
              subst (IsAt c id.block (Leaf (leaf_pointers.count * n + k))) (sym is) (still_at (leaf_of a root n k) (Leaf (leaf_pointers.count * n + k)) (inr (inr (n, k, small, there, refl))) (s.rooted.laid.leaves n k small there));
          leads = way.leads;
          fit = way.fit;
        };
        here = way.here;
        part = subst (BelongsTo id.block Root) (sym (way.parts id.block (inl refl))) s.rooted.part;
        no_bit = ap is_committed (way.parts id.block (inl refl)) ∙ s.rooted.no_bit;
        word = way.word ∙ s.rooted.word;
      }

      pub way_partly : IsPartly c graph id f new_file
      way_partly = partly a graph id s.holds root next (leaves_of a root) new f new_file s.rooted.laid.fit gives new_fit new_gives led.head.fill c r way.head way.mixed way.frames way_rooted way.fit (elim way.sized [ inl was ↦ inl was | inr is ↦ inr (is ∙ sym led.head.size) ])

    -- ---- once the root is written

    module _ {c : Image} (way : IsEitherWay e c) (as_e : (m : ℕ) → IsOwn a id root m → block_at c m ≡ block_at e m) where
      abbrev pub shrunk : Image
      shrunk = set c id.block (root_spelling next)

      below : id.block < length c
      below = let taken = (placed a id.block id.block Root (part_at a id.block) refl s.rooted.part).taken in omega (arith, way.frames.size, in_image a graph s.holds id.block taken.is taken.here)

      loose : IsLoose a (others graph id) id.block
      loose = own_is_loose id.block (inl refl)

      no_map : id.block % 64 ≢ 0
      no_map = not_map id.block loose.apart

      content_stays : (m : ℕ) (p : Place) → IsOwn a id root m → BelongsTo id.block p (part_at a m) → p ≢ Root → block_at shrunk m ≡ block_at e m
      content_stays m p mine own other = get_or-set_other c id.block m (root_spelling next) [] (λ same. other (places_differ a m id.block id.block p Root own s.rooted.part same)) ∙ as_e m mine

      next_node : (n : ℕ) → node_of next n ≢ 0 → node_of root n ≢ 0
      next_node n real none = real (led.nodes n real ∙ none)

      node_stays : (n : ℕ) → leaves_at shrunk (node_of next n) ≡ leaves_at e (node_of next n)
      node_stays n = same_leaves shrunk e (node_of next n) (λ real. ap (block_at shrunk) (led.nodes n real) ∙ content_stays (node_of root n) (Node n) (inr (inl (n, next_node n real, refl))) (s.rooted.laid.nodes n (next_node n real)).part (node_no_root n) ∙ ap (block_at e) (sym (led.nodes n real)))

      pub pointer_stays : (n k : ℕ) → leaf_of shrunk next n k ≡ leaf_of e next n k
      pointer_stays n k = ap (λ (ls : List ℕ). get_or ls k 0) (node_stays n)

      all : (l : ℕ) → bytes_held (leaves_of shrunk next l) ≡ bytes_held (new l)
      all = each_leaf (λ l. bytes_held (leaves_of shrunk next l) ≡ bytes_held (new l)) (λ n k small.
          let q = leaf_of e next n k in
          ap bytes_held (stands_at shrunk next led.good n k small)
          ∙ alike shrunk e (leaf_of shrunk next n k) q (pointer_stays n k) (λ real.
          let is = led.pointers n k small real in
          let there : leaf_of a root n k ≢ 0 = λ none. real (is ∙ none) in
          ap (block_at shrunk) is ∙ content_stays (leaf_of a root n k) (Leaf (leaf_pointers.count * n + k)) (inr (inr (n, k, small, there, refl))) (s.rooted.laid.leaves n k small there).part (leaf_no_root (leaf_pointers.count * n + k)) ∙ ap (block_at e) (sym is))
          ∙ sym (ap bytes_held (stands_at e next led.good n k small)))

      on_shrunk : IsOnWay shrunk next
      on_shrunk = record {
        frames = frames_content a (others graph id) c id.block (root_spelling next) way.frames loose;
        parts = λ m own. ap part_of (entry_in-set c id.block (root_spelling next) m no_map) ∙ way.parts m own;
        here = get_or-set_same c id.block (root_spelling next) [] below;
        good = led.good;
        word = led.word;
        head = record { kind = led.head.kind; fill = led.head.fill; size = refl };
        sized = inr led.head.size;
        nodes = led.nodes;
        pointers = λ n k small real. pointer_stays n k ∙ led.pointers n k small (λ none. real (pointer_stays n k ∙ none));
        leads = λ n real.
            let to = led.leads n (next_node n real) in
            (to.0, to.1, λ none. to.2 (ap (λ (m : ℕ). get_or (leaves_at e m) to.0 0) (sym (led.nodes n real)) ∙ sym (pointer_stays n to.0) ∙ none));
        mixed = λ l. inr (all l);
        fit = led.fits (leaves_of shrunk next) all;
      }

      pub shrunk_rooted : IsRooted shrunk id next
      shrunk_rooted = way_rooted on_shrunk

      pub shrunk_partly : IsPartly shrunk graph id f new_file
      shrunk_partly = way_partly on_shrunk

      pub shrunk_parts : (m : ℕ) → IsOwn a id root m → part_at shrunk m ≡ part_at a m
      shrunk_parts = on_shrunk.parts

      pub shrunk_reads : ReadsAs (length a) id (sight shrunk id.block) (objects.File new_file)
      shrunk_reads = subst (λ (n : ℕ). ReadsAs n id (sight shrunk id.block) (objects.File new_file)) on_shrunk.frames.size
          (subst (ReadsAs (length shrunk) id (sight shrunk id.block)) (led.object (leaves_of shrunk next) all) (rooted_reads shrunk id next shrunk_rooted))

      pub shrunk_holds : Holds shrunk (with_object graph id (objects.File new_file))
      shrunk_holds = object_put a shrunk graph id (objects.File new_file) s.holds on_shrunk.frames shrunk_reads

      -- what is kept is the file's as before
      pub shrunk_own : (m : ℕ) → IsOwn shrunk id next m → IsOwn a id root m
      shrunk_own m (inl is) = inl is
      shrunk_own m (inr (inl (n, real, is))) = inr (inl (n, next_node n real, is ∙ led.nodes n real))
      shrunk_own m (inr (inr (n, k, small, real, is))) = let same = on_shrunk.pointers n k small real in inr (inr (n, k, small, λ none. real (same ∙ none), is ∙ same))

  -- ---- set to less

  module _ {size : ℕ} (less : size < length f.bytes) {next : roots.Root} {e : Image} (t : IsTrimmed a id root next size e) where
    abbrev wanted : ℕ → Option Held
    wanted = leaves_of e next

    shorter : size ≤ root.size
    shorter = omega (arith, less, gives.size)

    -- ---- the leaves that it is to have

    kept_leaf : (l : ℕ) → l < size / 512 → bytes_held (wanted l) ≡ bytes_held (leaves_of a root l)
    kept_leaf = each_leaf (λ l. l < size / 512 → bytes_held (wanted l) ≡ bytes_held (leaves_of a root l)) (λ n k small early.
        ap bytes_held (stands_at e next t.good n k small)
        ∙ alike e a (leaf_of e next n k) (leaf_of a root n k) (t.next_early n k small (omega (arith, early))) (λ some. t.bytes n k small some (λ is. absurd (omega (arith, is, early))))
        ∙ sym (ap bytes_held (stands_at a root s.rooted.laid.good n k small)))

    cut_at : (l : ℕ) → l ≡ size / 512 → size % 512 ≢ 0 → bytes_held (wanted l) ≡ cut_held size root.fill (leaves_of a root l)
    cut_at = each_leaf (λ l. l ≡ size / 512 → size % 512 ≢ 0 → bytes_held (wanted l) ≡ cut_held size root.fill (leaves_of a root l)) (λ n k small is within.
        let p = leaf_of a root n k in
        ap bytes_held (stands_at e next t.good n k small) ∙ ap (λ (m : ℕ). bytes_held (held_at e m)) (t.next_early n k small (omega (arith, is, within)))
        ∙ elim (cases_eq p 0) [
          | inl none ↦ ap bytes_held (ap (held_at e) none) ∙ sym (ap (cut_held size root.fill) (stands_at a root s.rooted.laid.good n k small ∙ ap (held_at a) none))
          | inr some ↦
              some_bytes e p some ∙ ap Some (t.cut_bytes n k small some is within
              ∙ ap (cut size root.fill) (sym (content_is root.fill (Some (held a p)) (block_at a p) refl (s.blocks p (s.rooted.laid.leaves n k small some).below).long)))
              ∙ sym (ap (cut_held size root.fill) (stands_at a root s.rooted.laid.good n k small ∙ held_there a p some))
        ])

    gone_leaf : (l : ℕ) → leaves_in size ≤ l → wanted l ≡ None
    gone_leaf = each_leaf (λ l. leaves_in size ≤ l → wanted l ≡ None) (λ n k small late. stands_at e next t.good n k small ∙ ap (held_at e) (t.next_late n k small late))

    -- leaves with the same bytes
    module _ (p : ℕ → Option Held) (all : (l : ℕ) → bytes_held (p l) ≡ bytes_held (wanted l)) where
      no_bytes : (o : Option Held) → bytes_held o ≡ None → o ≡ None
      no_bytes None is = refl
      no_bytes (Some h) is = cc

      shrinks : Shrinks root.fill size (leaves_of a root) p
      shrinks = record {
        kept = λ l early. all l ∙ kept_leaf l early;
        ends = λ within. all (size / 512) ∙ cut_at (size / 512) refl within;
        gone = λ l late. no_bytes (p l) (all l ∙ ap bytes_held (gone_leaf l late));
      }

      fit_as : LeavesFit next p
      fit_as = same_fit size root next t.head p (cut_fit root (leaves_of a root) p size s.rooted.laid.fit shrinks shorter)

      object_as : object_with next p ≡ objects.File (resized f size)
      object_as = same_object size root next t.head p ∙ cut_object root (leaves_of a root) p size s.rooted.laid.fit shrinks shorter a_file ∙ ap (λ o. changed_object (SetSize size) o) s.same

    pub led : IsLed a e root next size (resized f size)
    led = record {
      good = t.good;
      head = t.head;
      word = t.word;
      nodes = t.nodes;
      pointers = λ n k small real. elim (cases_lt (leaf_pointers.count * n + k) (leaves_in size)) [ inl early ↦ t.next_early n k small early | inr late ↦ absurd (real (t.next_late n k small late)) ];
      leads = t.leads;
      fits = fit_as;
      object = object_as;
    }

    -- ---- before the root is written

    module _ {c : Image} (way : IsEitherWay e c) where
      node_either : (n : ℕ) → (leaves_at c (node_of root n) ≡ leaves_at a (node_of root n)) ⊎ (leaves_at c (node_of root n) ≡ leaves_at e (node_of root n))
      node_either n = elim (cases_eq (node_of root n) 0) [
        | inl none ↦ inl (same_leaves c a (node_of root n) (λ some. absurd (some none)))
        | inr some ↦ elim (way.blocks (node_of root n) (inr (inl (n, some, refl)))) [
          | inl was ↦ inl (same_leaves c a (node_of root n) (λ _. was))
          | inr now ↦ inr (same_leaves c e (node_of root n) (λ _. now))
        ]
      ]

      pointer : (n k : ℕ) → (leaf_of c root n k ≡ leaf_of a root n k) ⊎ (leaf_of c root n k ≡ leaf_of e root n k)
      pointer n k = elim (node_either n) [ inl was ↦ inl (ap (λ (ls : List ℕ). get_or ls k 0) was) | inr now ↦ inr (ap (λ (ls : List ℕ). get_or ls k 0) now) ]

      way_early : (n k : ℕ) → k < leaf_pointers.count → leaf_pointers.count * n + k < leaves_in size → leaf_of c root n k ≡ leaf_of a root n k
      way_early n k small early = elim (pointer n k) [ inl was ↦ was | inr now ↦ now ∙ t.early n k small early ]

      way_late : (n k : ℕ) → k < leaf_pointers.count → leaves_in size ≤ leaf_pointers.count * n + k → (leaf_of c root n k ≡ leaf_of a root n k) ⊎ (leaf_of c root n k ≡ 0)
      way_late n k small late = elim (pointer n k) [ inl was ↦ inl was | inr now ↦ elim (t.late n k small late) [ inl same ↦ inl (now ∙ same) | inr none ↦ inr (now ∙ none) ] ]

      real_own : (n k : ℕ) → k < leaf_pointers.count → leaf_of a root n k ≢ 0 → IsOwn a id root (leaf_of a root n k)
      real_own n k small some = inr (inr (n, k, small, some, refl))

      late_bytes : (n k : ℕ) → k < leaf_pointers.count → leaves_in size ≤ leaf_pointers.count * n + k → leaf_of a root n k ≢ 0 → block_at c (leaf_of a root n k) ≡ block_at a (leaf_of a root n k)
      late_bytes n k small late some = elim (way.blocks (leaf_of a root n k) (real_own n k small some)) [ inl was ↦ was | inr now ↦ now ∙ t.bytes n k small some (λ is. omega (arith, is, late)) ]

      mixed_at : (n k : ℕ) → k < leaf_pointers.count → (bytes_held (leaves_of c root (leaf_pointers.count * n + k)) ≡ bytes_held (leaves_of a root (leaf_pointers.count * n + k))) ⊎ (bytes_held (leaves_of c root (leaf_pointers.count * n + k)) ≡ bytes_held (wanted (leaf_pointers.count * n + k)))
      mixed_at n k small =
          let p = leaf_of a root n k in
          let here = ap bytes_held (stands_at c root s.rooted.laid.good n k small) in
          let old = sym (ap bytes_held (stands_at a root s.rooted.laid.good n k small)) in
          let now = sym (ap bytes_held (stands_at e next t.good n k small)) in
          elim (cases_lt (leaf_pointers.count * n + k) (leaves_in size)) [
            | inl early ↦ elim (cases_eq p 0) [
              | inl none ↦ inl (here ∙ alike c a (leaf_of c root n k) p (way_early n k small early) (λ some. absurd (some none)) ∙ old)
              | inr some ↦ elim (way.blocks p (real_own n k small some)) [
                | inl was ↦ inl (here ∙ alike c a (leaf_of c root n k) p (way_early n k small early) (λ _. was) ∙ old)
                | inr is ↦ inr (here ∙ alike c e (leaf_of c root n k) p (way_early n k small early) (λ _. is) ∙ ap (λ (m : ℕ). bytes_held (held_at e m)) (sym (t.next_early n k small early)) ∙ now)
              ]
            ]
            | inr late ↦ elim (way_late n k small late) [
              | inl same ↦ inl (here ∙ alike c a (leaf_of c root n k) p same (late_bytes n k small late) ∙ old)
              | inr none ↦ inr (here ∙ ap bytes_held (ap (held_at c) none ∙ sym (ap (held_at e) (t.next_late n k small late))) ∙ now)
            ]
          ]

      way_mixed : (l : ℕ) → (bytes_held (leaves_of c root l) ≡ bytes_held (leaves_of a root l)) ⊎ (bytes_held (leaves_of c root l) ≡ bytes_held (wanted l))
      way_mixed = each_leaf (λ l. (bytes_held (leaves_of c root l) ≡ bytes_held (leaves_of a root l)) ⊎ (bytes_held (leaves_of c root l) ≡ bytes_held (wanted l))) mixed_at

      on_way : IsOnWay led c root
      on_way = record {
        frames = way.frames;
        parts = way.parts;
        here = elim (way.blocks id.block (inl refl)) [ inl was ↦ was | inr now ↦ now ∙ t.root_kept ] ∙ s.rooted.here;
        good = s.rooted.laid.good;
        word = refl;
        head = record { kind = refl; fill = refl; size = refl };
        sized = inl refl;
        nodes = λ n real. refl;
        pointers = λ n k small real. elim (cases_lt (leaf_pointers.count * n + k) (leaves_in size)) [
          | inl early ↦ way_early n k small early
          | inr late ↦ elim (way_late n k small late) [ inl same ↦ same | inr none ↦ absurd (real none) ]
        ];
        leads = λ n real. elim (node_either n) [
          | inl was ↦ let to = s.rooted.laid.leads n real in (to.0, to.1, λ none. to.2 (sym (ap (λ (ls : List ℕ). get_or ls to.0 0) was) ∙ none))
          | inr now ↦ let to = t.leads n real in (to.0, to.1, λ none. to.2 (sym (ap (λ (ls : List ℕ). get_or ls to.0 0) now) ∙ none))
        ];
        mixed = way_mixed;
        fit = mixed_fit root next root (leaves_of a root) wanted (leaves_of c root) s.rooted.laid.fit (fit_as wanted (λ l. refl)) (omega (arith, t.head.size, shorter)) t.head.fill (record { kind = refl; fill = refl; size = refl }) way_mixed;
      }

      pub either_partly : IsPartly c graph id f (resized f size)
      either_partly = way_partly led on_way
