-- Images that a change of a file in place may leave.
use Rattle.normal_files.proofs.Words.{◌≡◌, ◌≢◌, ◌⊎◌, inl, inr, ℕ, ◌+◌, ◌*◌, ◌%◌, ◌<◌, List, [], get_or, set, Some, None, refl, sym, ◌∙◌, ap, subst, get_or-set_other, get_or-set_same, arith, cases_eq, same_Some, Image, block_at, Puid, Place, Leaf, Node, Root, IsRootBlock, root_spelling, entry_in-set, LeavesFit, Graph, with_object, Frames, IsBlockOf, IsLoose, BelongsTo, is_committed, part_at, part_of, held_at, sight, Holds, ReadsAs, object_put, other_is, others, owned_is_loose, placed, taken_apart, held_there, entry_mixed, frames_content, frames_fewer, frames_mix, not_map, held, File, leaf_pointers, leaves_at}
use Rattle.normal_files.specs.Among.{IsAmong}
use Rattle.normal_files.specs.Laid.{IsAt, IsRooted, leaf_of, leaves_of, node_of, object_laid}
use Rattle.normal_files.proofs.Laid.{rooted_reads}
use Rattle.normal_files.proofs.Owned.{node_block as owned_node, leaf_block as owned_leaf}
use Rattle.normal_files.proofs.Trees.{each_leaf, leaf_stands, same_leaves, stands_at}
use Rattle.normal_files.proofs.Places.{leaf_no_node, leaf_no_root, one_leaf}
use Rattle.normal_files.specs.View.{HasFile}
use Rattle.block_tree.specs.declared.root.Root as roots
use Rattle.ufs_model.specs.declared.object.Object.TheVariants as objects

-- blocks at different places are different
pub places_differ : (a : Image) (m n r : ℕ) (p q : Place) → BelongsTo r p (part_at a m) → BelongsTo r q (part_at a n) → m ≡ n → p ≡ q
places_differ a m n r p q one two same =
    same_Some _ _ (sym one.place_is ∙ ap (λ part. part.place) (same_Some _ _ (sym one.here ∙ ap (part_at a) same ∙ two.here)) ∙ two.place_is)

module _ {a : Image} {graph : Graph} {id : Puid} {f : File} {root : roots.Root} (s : HasFile a graph id f root) where
  is_root : IsRootBlock (root_spelling root) root
  is_root = record { good = s.rooted.laid.good; spelled = refl }

  -- ---- the file's own blocks

  leaf_is : (n k : ℕ) → k < leaf_pointers.count → leaf_of a root n k ≢ 0 → BelongsTo id.block (Leaf (leaf_pointers.count * n + k)) (part_at a (leaf_of a root n k))
  leaf_is n k small real = (s.rooted.laid.leaves n k small real).part

  node_is : (n : ℕ) → node_of root n ≢ 0 → BelongsTo id.block (Node n) (part_at a (node_of root n))
  node_is n real = (s.rooted.laid.nodes n real).part

  pub own_apart : (m : ℕ) (p : Place) → BelongsTo id.block p (part_at a m) → m % 64 ≢ 0
  own_apart m p part = not_map m (taken_apart a graph s.holds m id.block (placed a m id.block p (part_at a m) refl part).taken)

  pub own_loose : (m : ℕ) (p : Place) → BelongsTo id.block p (part_at a m) → IsLoose a (others graph id) m
  own_loose m p part = owned_is_loose a graph id (objects.File f) s.holds s.at m (placed a m id.block p (part_at a m) refl part).taken

  node_block : (n : ℕ) → node_of root n ≢ 0 → IsBlockOf a id.block (node_of root n)
  node_block = owned_node a id root s.rooted

  leaf_block : (n k : ℕ) → k < leaf_pointers.count → leaf_of a root n k ≢ 0 → IsBlockOf a id.block (leaf_of a root n k)
  leaf_block = owned_leaf a id root s.rooted

  pub leaf_held : (n k : ℕ) → k < leaf_pointers.count → leaf_of a root n k ≢ 0 → leaves_of a root (leaf_pointers.count * n + k) ≡ Some (held a (leaf_of a root n k))
  leaf_held n k small real = leaf_stands a (root_spelling root) root is_root n k small ∙ held_there a (leaf_of a root n k) real

  -- ---- what is among these images

  module _ (P : ℕ → List ℕ → Type 0) where
    pub among_begin : (c : Image) → Frames a graph c → ((n k : ℕ) → k < leaf_pointers.count → leaf_of a root n k ≢ 0 → P (leaf_pointers.count * n + k) (block_at a (leaf_of a root n k))) → IsAmong a graph id root P c
    among_begin c frames bytes = record {
      frames = frames_fewer a c graph (others graph id) frames (λ x p there. (other_is graph id x p there).0);
      root_kept = frames.held id.block (id, objects.File f, s.at, inl refl);
      nodes = λ n real. frames.held (node_of root n) (id, objects.File f, s.at, node_block n real);
      parts = λ n k small real. (frames.held (leaf_of a root n k) (id, objects.File f, s.at, leaf_block n k small real)).part;
      bytes = λ n k small real. subst (P (leaf_pointers.count * n + k)) (sym (frames.held (leaf_of a root n k) (id, objects.File f, s.at, leaf_block n k small real)).content) (bytes n k small real);
    }

    -- a block that no object holds is written
    pub among_loose : (c : Image) (m : ℕ) (v : List ℕ) → IsAmong a graph id root P c → IsLoose a graph m → IsAmong a graph id root P (set c m v)
    among_loose c m v among loose =
        let no_map = not_map m loose.apart in
        let other = λ (b : ℕ) (own : IsBlockOf a id.block b) (same : b ≡ m). loose.unheld (id, objects.File f, s.at, subst (IsBlockOf a id.block) same own) in
        let same_at = λ (b : ℕ) (own : IsBlockOf a id.block b). get_or-set_other c m b v [] (other b own) in
        let part = λ (b : ℕ). ap part_of (entry_in-set c m v b no_map) in
        record {
          frames = frames_content a (others graph id) c m v among.frames (record { apart = loose.apart; unheld = λ h. loose.unheld (h.0, h.1, (other_is graph id h.0 h.1 h.2).0, h.3) });
          root_kept = record { part = part id.block ∙ among.root_kept.part; content = same_at id.block (inl refl) ∙ among.root_kept.content };
          nodes = λ n real. record { part = part (node_of root n) ∙ (among.nodes n real).part; content = same_at (node_of root n) (node_block n real) ∙ (among.nodes n real).content };
          parts = λ n k small real. part (leaf_of a root n k) ∙ among.parts n k small real;
          bytes = λ n k small real. subst (P (leaf_pointers.count * n + k)) (sym (same_at (leaf_of a root n k) (leaf_block n k small real))) (among.bytes n k small real);
        }

    -- a map of one is written into another
    pub among_map : (Q : ℕ → List ℕ → Type 0) (c k : Image) (m : ℕ) → IsAmong a graph id root P c → IsAmong a graph id root Q k → m % 64 ≡ 0 → IsAmong a graph id root P (set c m (block_at k m))
    among_map Q c k m one two map =
        let part = λ (b : ℕ) (p : part_at c b ≡ part_at a b) (q : part_at k b ≡ part_at a b). by b p q in
        let content = λ (b : ℕ) (p : Place) (own : BelongsTo id.block p (part_at a b)). get_or-set_other c m b (block_at k m) [] (λ same. own_apart b p own (omega (arith, ap (λ (x : ℕ). x % 64) same, map))) in
        record {
          frames = frames_mix a (others graph id) c k m one.frames two.frames;
          root_kept = record { part = part id.block one.root_kept.part two.root_kept.part; content = content id.block Root s.rooted.part ∙ one.root_kept.content };
          nodes = λ n real. record { part = part (node_of root n) (one.nodes n real).part (two.nodes n real).part; content = content (node_of root n) (Node n) (node_is n real) ∙ (one.nodes n real).content };
          parts = λ n j small real. part (leaf_of a root n j) (one.parts n j small real) (two.parts n j small real);
          bytes = λ n j small real. subst (P (leaf_pointers.count * n + j)) (sym (content (leaf_of a root n j) (Leaf (leaf_pointers.count * n + j)) (leaf_is n j small real))) (one.bytes n j small real);
        }
      where
        by : (b : ℕ) → part_at c b ≡ part_at a b → part_at k b ≡ part_at a b → part_at (set c m (block_at k m)) b ≡ part_at a b
        by b p q = elim (entry_mixed c k m b) [ inl is ↦ ap part_of is ∙ p | inr is ↦ ap part_of is ∙ q ]

    pub among_weaker : (Q : ℕ → List ℕ → Type 0) (c : Image) → IsAmong a graph id root P c → ((n k : ℕ) → k < leaf_pointers.count → leaf_of a root n k ≢ 0 → (content : List ℕ) → P (leaf_pointers.count * n + k) content → Q (leaf_pointers.count * n + k) content) → IsAmong a graph id root Q c
    among_weaker Q c among weaker = record {
      frames = among.frames;
      root_kept = among.root_kept;
      nodes = among.nodes;
      parts = among.parts;
      bytes = λ n k small real. weaker n k small real (block_at c (leaf_of a root n k)) (among.bytes n k small real);
    }

    -- a held leaf is written
    pub among_leaf : (Q : ℕ → List ℕ → Type 0) (c : Image) (n k : ℕ) (v : List ℕ) → IsAmong a graph id root P c → k < leaf_pointers.count → leaf_of a root n k ≢ 0 → Q (leaf_pointers.count * n + k) v → ((l : ℕ) (bytes : List ℕ) → l ≢ leaf_pointers.count * n + k → P l bytes → Q l bytes)
        → IsAmong a graph id root Q (set c (leaf_of a root n k) v)
    among_leaf Q c n k v among small real new old =
        let x = leaf_of a root n k in
        let mine = leaf_is n k small real in
        let no_map = own_apart x (Leaf (leaf_pointers.count * n + k)) mine in
        let part = λ (b : ℕ). ap part_of (entry_in-set c x v b no_map) in
        let below = (s.rooted.laid.leaves n k small real).below in
        record {
          frames = frames_content a (others graph id) c x v among.frames (own_loose x (Leaf (leaf_pointers.count * n + k)) mine);
          root_kept = record { part = part id.block ∙ among.root_kept.part; content = get_or-set_other c x id.block v [] (λ same. leaf_no_root (leaf_pointers.count * n + k) (sym (places_differ a id.block x id.block Root (Leaf (leaf_pointers.count * n + k)) s.rooted.part mine same))) ∙ among.root_kept.content };
          nodes = λ m there. record {
            part = part (node_of root m) ∙ (among.nodes m there).part;
            content = get_or-set_other c x (node_of root m) v [] (λ same. leaf_no_node (leaf_pointers.count * n + k) m (sym (places_differ a (node_of root m) x id.block (Node m) (Leaf (leaf_pointers.count * n + k)) (node_is m there) mine same))) ∙ (among.nodes m there).content;
          };
          parts = λ m j low there. part (leaf_of a root m j) ∙ among.parts m j low there;
          bytes = λ m j low there. elim (cases_eq (leaf_pointers.count * m + j) (leaf_pointers.count * n + k)) [
            | inl same ↦
                let high : m ≡ n = omega (arith, same, low, small) in
                let place : j ≡ k = omega (arith, same, low, small) in
                let here : leaf_of a root m j ≡ x = ap (λ (p : ℕ). leaf_of a root p j) high ∙ ap (leaf_of a root n) place in
                subst (λ (l : ℕ). Q l (block_at (set c x v) (leaf_of a root m j))) (sym same)
                (subst (Q (leaf_pointers.count * n + k)) (sym (ap (block_at (set c x v)) here ∙ get_or-set_same c x v [] (omega (arith, below, among.frames.size)))) new)
            | inr other ↦
                let apart = λ (same : leaf_of a root m j ≡ x). other (one_leaf _ _ (places_differ a (leaf_of a root m j) x id.block (Leaf (leaf_pointers.count * m + j)) (Leaf (leaf_pointers.count * n + k)) (leaf_is m j low there) mine same)) in
                subst (Q (leaf_pointers.count * m + j)) (sym (get_or-set_other c x (leaf_of a root m j) v [] apart)) (old (leaf_pointers.count * m + j) (block_at c (leaf_of a root m j)) other (among.bytes m j low there))
          ];
        }

    -- ---- the file in such an image

    module _ (c : Image) (among : IsAmong a graph id root P c) where
      pub same_node : (n : ℕ) → leaves_at c (node_of root n) ≡ leaves_at a (node_of root n)
      same_node n = same_leaves c a (node_of root n) (λ real. (among.nodes n real).content)

      pub same_leaf : (n k : ℕ) → leaf_of c root n k ≡ leaf_of a root n k
      same_leaf n k = ap (λ (ns : List ℕ). get_or ns k 0) (same_node n)

      -- each leaf is held in both or in none
      abbrev Either : ℕ → Type 0
      Either l = ((leaves_of c root l ≡ None) × (leaves_of a root l ≡ None)) ⊎ ((x : ℕ) × (leaves_of a root l ≡ Some (held a x)) × (leaves_of c root l ≡ Some (held c x)) × P l (block_at c x))

      pub leaf_either : (l : ℕ) → Either l
      leaf_either = each_leaf Either (λ n k small.
          let x = leaf_of a root n k in
          let in_a = stands_at a root s.rooted.laid.good n k small in
          let in_c = stands_at c root s.rooted.laid.good n k small ∙ ap (held_at c) (same_leaf n k) in
          elim (cases_eq x 0) [ inl is ↦ inl (in_c ∙ ap (held_at c) is, in_a ∙ ap (held_at a) is) | inr real ↦ inr (x, in_a ∙ held_there a x real, in_c ∙ held_there c x real, among.bytes n k small real) ])

      pub among_rooted : LeavesFit root (leaves_of c root) → IsRooted c id root
      among_rooted fit = record {
        laid = record {
          good = s.rooted.laid.good;
          nodes = λ n real. let was = s.rooted.laid.nodes n real in record { below = omega (arith, was.below, among.frames.size); part = subst (BelongsTo id.block (Node n)) (sym (among.nodes n real).part) was.part };
          leaves = λ n k small real.
              let same = same_leaf n k in
              let there : leaf_of a root n k ≢ 0 = λ none. real (same ∙ none) in
              let was = s.rooted.laid.leaves n k small there in
              subst (IsAt c id.block (Leaf (leaf_pointers.count * n + k))) (sym same) (record { below = omega (arith, was.below, among.frames.size); part = subst (BelongsTo id.block (Leaf (leaf_pointers.count * n + k))) (sym (among.parts n k small there)) was.part });
          leads = λ n real. let to = s.rooted.laid.leads n real in (to.0, to.1, λ none. to.2 (sym (same_leaf n to.0) ∙ none));
          fit = fit;
        };
        here = among.root_kept.content ∙ s.rooted.here;
        part = subst (BelongsTo id.block Root) (sym among.root_kept.part) s.rooted.part;
        no_bit = ap is_committed among.root_kept.part ∙ s.rooted.no_bit;
        word = s.rooted.word;
      }

      pub among_holds : LeavesFit root (leaves_of c root) → Holds c (with_object graph id (object_laid c root))
      among_holds fit = object_put a c graph id (object_laid c root) s.holds among.frames (subst (λ (n : ℕ). ReadsAs n id (sight c id.block) (object_laid c root)) among.frames.size (rooted_reads c id root (among_rooted fit)))
