-- How a call ends that makes an object, and puts its identifier into a slot, as one commit.
use Rattle.std.proofs.Common.{◌≡◌, ◌≢◌, ◌⊎◌, inl, inr, ℕ, zero, suc, ◌+◌, ◌<◌, ◌≤◌, List, [], ◌∷◌, length, Bool, true, false, cond, not, ◌||◌, Option, Some, None, refl, sym, ◌∙◌, ap, subst, arith, ◌==◌, map, option_map, sum, Less, Equal, Greater}
use Rattle.cfs_core.proofs.Words.{and_parts, block_there, blocks_of, both_ways, cases_lt, changed_draft, created, Draft, edge_stays, entry_in, false_from_ne_true, Fill, free_from, free_is_root, Ghosts, Graph, has_block, has_block-still, has_root_in, Holds, ids_of, Image, in_image, Index, index_with, insert_entry, insert_entry-same, is_free_entry, is_free_in, is_free_root, is_placed, is_taken, taken_more, taken_put, blocks_taken, graph_blocks}
use Rattle.cfs_core.proofs.Words.{IsLeastFree, IsOfThese, Kept, keys_of-kinds_in, Kind, directory_kind-kinds_in, object_kind, kinds_in-insert_entry, kinds_of, MapEntry, match_ordering, named, nat_tests, need_of, not-true, Object, object_at, object_at-with_object, of_owners, or_cases, owner_of, Puid, puid_cmp, put, put_object-at, range_with_len, refusal_of, Request, rises, rises-with_object, same_puid, same_puid_is, same_puid_itself, seen, seen_object, State, sum_by, sum_by-cons, target, with_made, with_object, word}
use Rattle.cfs_base.specs.declared.kind.Kind.TheVariants as kinds
use Rattle.ufs_model.specs.declared.asked.Reply.TheVariants as replies
use Rattle.ufs_model.specs.declared.object.Object.TheVariants as objects
use Rattle.cfs_core.specs.Kernel.{Kernel}
use Rattle.cfs_core.specs.Makes.{IsMaking}
use Rattle.cfs_core.specs.StandsFor.{CoreServes, bare, drafts_of_handles, sweeps_now}
use Rattle.cfs_core.specs.Ways.{Reaches}
use Rattle.cfs_core.proofs.Changed.{of_this}
use Rattle.cfs_core.proofs.Committed.{IsOutcome}
use Rattle.cfs_core.proofs.Moved.{IsStepped}
use Rattle.cfs_core.proofs.Grown.{filled_blocks, replaced_blocks}
use Rattle.vol_owners.proofs.Owners.{no_draft}

-- ---- an object more

abbrev blocks : Puid × Object → ℕ
blocks e = blocks_of e.1

pub more_sum : (k : Puid) (o : Object) (es : List (Puid × Object)) → sum_by (λ e. blocks_of e.1) (insert_entry puid_cmp es k o) ≤ sum_by (λ e. blocks_of e.1) es + blocks_of o
more_sum k o [] = omega (arith, sum_by-cons blocks (k, o) [])
more_sum k o (e ∷ es) = elim (puid_cmp k e.0) as (λ r. sum_by blocks (match_ordering r ((k, o) ∷ e ∷ es) ((e.0, o) ∷ es) (e ∷ insert_entry puid_cmp es k o)) ≤ sum_by blocks (e ∷ es) + blocks_of o) [
  | Less ↦ omega (arith, sum_by-cons blocks (k, o) (e ∷ es))
  | Equal ↦ omega (arith, sum_by-cons blocks (e.0, o) es, sum_by-cons blocks e es)
  | Greater ↦ omega (arith, sum_by-cons blocks e (insert_entry puid_cmp es k o), sum_by-cons blocks e es, more_sum k o es)
]

-- ---- the least Free block

pub least_one : (image : Image) (a b : ℕ) → IsLeastFree image a → IsLeastFree image b → a ≡ b
least_one image a b one two = elim (cases_lt a b) [
  | inl below ↦ absurd (both_ways _ (two.least a below) one.free)
  | inr above ↦ elim (cases_lt b a) [ inl below ↦ absurd (both_ways _ (one.least b below) two.free) | inr same ↦ omega (arith, above, same) ]
]

pub least_there : (image : Image) (w n : ℕ) → ((m : ℕ) → m < n → is_free_in image m ≡ false) → 1 ≤ free_from image n w → (b : ℕ) × IsLeastFree image b
least_there image zero n none some = absurd (omega (arith, some))
least_there image (suc w) n none some = elim (is_free_in image n) as (λ t. is_free_in image n ≡ t → (b : ℕ) × IsLeastFree image b) [
  | true ↦ λ free. (n, record { free = free; least = none })
  | false ↦ λ taken. least_there image w (n + 1) (λ m below. elim (cases_lt m n) [ inl less ↦ none m less | inr same ↦ (let is : m ≡ n = omega (arith, below, same) in rw is taken) ]) (omega (arith, some, sum_by-cons (λ (m : ℕ). cond (is_free_in image m) 1 0) n (range_with_len (n + 1) w), ap {B = ℕ} (λ (t : Bool). cond t 1 0) taken))
] refl

pub free_inside : (image : Image) (g : Graph) (n : ℕ) → Holds image g → is_free_in image n ≡ true → n < length image
free_inside image g n holds free = at (entry_in image n) refl free
  where
    at : (e : Option MapEntry) → entry_in image n ≡ e → is_free_entry e ≡ true → n < length image
    at None is none = cc
    at (Some e) is free = in_image image g holds n e is

pub need_is : (s : State) (who : ℕ) (index : Puid) (i : Index) (slot : ℕ) (o : Object) (request : Request) → IsMaking request slot o → Reaches s who request index (objects.Index i) → need_of s who request ≡ 4
need_is s who index i slot o request making r = making.need s who ∙ rw (r.bare, r.name, r.there) refl

-- ---- a block that is Free, for the root of a new object

module _ {D : Type 0} (g : Ghosts D) (k : Kernel D) (s : State) (serves : CoreServes g k s) (b : ℕ) (least : IsLeastFree (g.content k.disk) b) where
  pub free_root : is_free_root s.graph b ≡ true
  free_root = free_is_root (g.content k.disk) s.graph (drafts_of_handles k.handles s.grants) serves.store.account serves.store.ordered b least.free

  pub not_zero : b ≢ 0
  not_zero zero_is = let no = (and_parts (not (b == 0)) (not (has_block s.graph.objects b)) free_root).0 in let is : (b == 0) ≡ true = grind (arith, nat_tests) in both_ways (b == 0) (not-true _ no) is

  pub no_root : has_block s.graph.objects b ≡ false
  no_root = not-true _ (and_parts (not (b == 0)) (not (has_block s.graph.objects b)) free_root).1

  pub inside : b < length (g.content k.disk)
  inside = free_inside (g.content k.disk) s.graph b serves.store.account.holds least.free

  module _ (w : ℕ) where
    -- what is there is another object
    pub other_than_new : (x : Puid) → has_block s.graph.objects x.block ≡ true → same_puid x (record { block = b; word = w }) ≡ false
    other_than_new x there = false_from_ne_true _ (λ same. both_ways _ no_root (subst (λ (y : Puid). has_block s.graph.objects y.block ≡ true) (same_puid_is x (record { block = b; word = w }) same) there))

    -- and this one has no draft
    pub new_undrafted : drafts_of_handles k.handles s.grants (record { block = b; word = w }) ≡ None
    new_undrafted = no_draft (g.content k.disk) s.graph (drafts_of_handles k.handles s.grants) serves.store.account (record { block = b; word = w }) (λ p there. both_ways _ no_root (block_there s.graph (record { block = b; word = w }) p there))

-- ---- an object is made, with block b as its root

module _ {D : Type 0} (g : Ghosts D) (k : Kernel D) (s : State) (who : ℕ) (serves : CoreServes g k s) (index : Puid) (i : Index) (slot : ℕ) (o : Object) (one : blocks_of o ≡ 1) (request : Request) (making : IsMaking request slot o)
    (r : Reaches s who request index (objects.Index i)) (goes : refusal_of s who request ≡ None) (enough : 8 ≤ sum k.space.free) (b : ℕ) (least : IsLeastFree (g.content k.disk) b) where
  abbrev id : Puid
  id = record { block = b; word = word k.words.seed (s.drawn + 1) }

  abbrev after : State
  after = (created k.words.seed s who (target request) slot o b).1

  abbrev with_new : Graph
  with_new = with_object s.graph id o

  abbrev h : Graph
  h = with_made s.graph index i slot id o

  apart : same_puid index id ≡ false
  apart = other_than_new g k s serves b least (word k.words.seed (s.drawn + 1)) index (block_there s.graph index (objects.Index i) r.there)

  still : object_at with_new index ≡ Some (objects.Index i)
  still = object_at-with_object s.graph id o index ∙ rw apart r.there

  up : rises (ids_of with_new) ≡ true
  up = rises-with_object s.graph id o serves.store.ordered

  -- the identifier is put into the index as it was
  pub filled_is : put (record s { graph = with_new; drawn = s.drawn + 1 }) who (target request) (changed_draft (Fill slot (Some id)) (seen s who (target request)))
      ≡ record s { graph = h; drawn = s.drawn + 1 }
  filled_is =
      let more : State = record s { graph = with_new; drawn = s.drawn + 1 } in
      put_object-at more who (target request) index (changed_draft (Fill slot (Some id)) (seen s who (target request))) r.name r.bare
      ∙ ap (λ (d : Draft). record more { graph = with_object with_new index (changed_draft (Fill slot (Some id)) d).object }) (seen_object s who (target request) index (objects.Index i) r.name r.bare r.there)

  pub outcome : IsOutcome k s who b request (replies.Id id) after h 3
  outcome = record {
    allowed = goes;
    names = λ _. free_root g k s serves b least;
    speaks = making.speaks who (replies.Id id);
    out = making.outcome k.words.seed s who b;
    graph = ap (λ (t : State). t.graph) filled_is;
    few = omega (arith, replaced_blocks with_new index (objects.Index i) (index_with i slot (Some id)) 2 up still (filled_blocks i slot (Some id)), more_sum id o s.graph.objects, one);
    free = omega (arith, enough);
  }

  -- it has no draft
  pub taken : blocks_taken h (drafts_of_handles k.handles s.grants) + graph_blocks s.graph ≡ blocks_taken s.graph (drafts_of_handles k.handles s.grants) + graph_blocks h
  taken =
      let ds = drafts_of_handles k.handles s.grants in
      omega (arith, taken_more s.graph ds id o (new_undrafted g k s serves b least id.word), taken_put with_new ds index (objects.Index i) (index_with i slot (Some id)) up still)

  directory_is : insert_entry puid_cmp k.directory.named id (object_kind o) ≡ kinds_of h
  directory_is =
      ap (λ named. insert_entry puid_cmp named id (object_kind o)) serves.front.directory ∙ sym (kinds_in-insert_entry s.graph.objects id o)
      ∙ sym (kinds_in-insert_entry with_new.objects index (index_with i slot (Some id))
      ∙ insert_entry-same _ index kinds.Index (ap rises (keys_of-kinds_in with_new.objects) ∙ up) (directory_kind-kinds_in with_new.objects index ∙ ap (option_map object_kind) still))

  module _ (d : D) (space : Kept) where
    abbrev new : Kernel D
    new = record k {
      disk = d;
      space = space;
      directory = record { named = insert_entry puid_cmp k.directory.named id (object_kind o); room = k.directory.room };
      words = record { seed = k.words.seed; drawn = k.words.drawn + 1 };
    }

    pub stepped : IsStepped k new s after h
    stepped = record {
      graph = ap (λ (t : State). t.graph) filled_is;
      rooted = refl;
      stopped = ap (λ (t : State). t.stopped) filled_is;
      sweeping = edge_stays sweeps_now (λ a b c d. refl) (named s who (target request)) id s.collection;
      drawn = ap (λ (t : State). t.drawn) filled_is ∙ ap (λ n. n + 1) serves.front.drawn;
      named = directory_is;
      root = refl;
      stop = refl;
      table = serves.front.grants ∙ ap (λ (t : State). map bare t.grants) (sym filled_is);
    }

  pub theirs : IsOfThese (λ entry. of_owners (index.block ∷ b ∷ []) entry) s.graph h
  theirs = record {
    there = λ entry is made.
        let two = and_parts (is_placed is_taken entry) _ is in
        let second = of_this with_new index (index_with i slot (Some id)) in
        either entry (or_cases (index.block == owner_of entry) _ two.1);
    more = λ r has. has_block-still r index (index_with i slot (Some id)) with_new.objects (has_block-still r id o s.graph.objects has);
  }
    where
      at_index : has_block h.objects index.block ≡ true
      at_index = block_there h index (index_with i slot (Some id)) (object_at-with_object with_new index (index_with i slot (Some id)) index ∙ rw (same_puid_itself index) refl)

      at_new : has_block h.objects b ≡ true
      at_new = has_block-still b index (index_with i slot (Some id)) with_new.objects (block_there with_new id o (object_at-with_object s.graph id o id ∙ rw (same_puid_itself id) refl))

      either : (entry : Option MapEntry) → ((index.block == owner_of entry) ≡ true) ⊎ (((b == owner_of entry) || false) ≡ true) → has_block h.objects (owner_of entry) ≡ true
      either entry (inl is) = let same : index.block ≡ owner_of entry = grind (arith, nat_tests) in subst (λ (n : ℕ). has_block h.objects n ≡ true) same at_index
      either entry (inr is) = elim (or_cases (b == owner_of entry) false is) [
        | inl here ↦ (let same : b ≡ owner_of entry = grind (arith, nat_tests) in subst (λ (n : ℕ). has_block h.objects n ≡ true) same at_new)
        | inr nothing ↦ cc
      ]

-- a name more, of another block than 0
pub none_more : (k : Puid) (kind : Kind) (es : List (Puid × Kind)) → (k.block == 0) ≡ false → has_root_in es 0 ≡ false → has_root_in (insert_entry puid_cmp es k kind) 0 ≡ false
none_more k kind [] other none = rw other refl
none_more k kind (e ∷ es) other none = elim (puid_cmp k e.0) as (λ c. has_root_in (match_ordering c ((k, kind) ∷ e ∷ es) ((e.0, kind) ∷ es) (e ∷ insert_entry puid_cmp es k kind)) 0 ≡ false) [
  | Less ↦ rw other none
  | Equal ↦ none
  | Greater ↦ (let two = none_of (e.0.block == 0) (has_root_in es 0) none in rw two.0 (none_more k kind es other two.1))
]
  where
    none_of : (a b : Bool) → (a || b) ≡ false → (a ≡ false) × (b ≡ false)
    none_of true b is = cc
    none_of false b is = (refl, is)
