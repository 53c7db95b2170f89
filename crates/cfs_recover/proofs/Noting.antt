-- What a walk has found, as one identifier is noted, and a block is held.
use Rattle.std.proofs.Common.{◌≡◌, ◌≢◌, ◌⊎◌, inl, inr, ℕ, zero, suc, ◌<◌, ◌≤◌, Bool, true, false, cond, List, [], ◌∷◌, ◌++◌, length, get_or, set, Option, Some, None, refl, sym, ◌∙◌, ap, subst, arith, get_or-set_same, get_or-set_other, length-append, is_some}
use Rattle.cfs_recover.proofs.Words.{Found, Graph, Grows, Image, IsClash, IsFoundItem, IsKeptBlock, IsNamed, IsSized, IsSome, IsWalkedObject, IsWalk, Kind, Listing, Object, Puid, Walk, cases_eq, false_from_ne_true, has_root_in, holds, insert_entry, is_there, directory_kind-kinds_in, object_kind, kinds_in-insert_entry, kinds_of, lists, new_index, object_at, object_at-with_object, option_map, puid_cmp, rises-with_object, same_Some, same_puid, same_puid_is, slice_get, with_object, without_id}
use Rattle.cfs_base.specs.declared.kind.Kind.TheVariants as kinds
use Rattle.ufs_model.specs.declared.object.Object.TheVariants as objects
use Rattle.cfs_recover.proofs.Good.{noted_on}
use Rattle.cfs_recover.proofs.Listings.{has_root, listed, listed_from, listed_new, listed_of_root, listed_then, root_again, root_then}

-- ---- lists

pub push_old : {A : Type 0} (xs : List A) (x y : A) (k : ℕ) → slice_get xs k ≡ Some y → slice_get (xs ++ x ∷ []) k ≡ Some y
push_old [] x y k at = cc
push_old (z ∷ xs) x y zero at = at
push_old (z ∷ xs) x y (suc k) at = push_old xs x y k at

pub push_new : {A : Type 0} (xs : List A) (x : A) → slice_get (xs ++ x ∷ []) (length xs) ≡ Some x
push_new [] x = refl
push_new (z ∷ xs) x = push_new xs x

pub push_from : {A : Type 0} (xs : List A) (x y : A) (k : ℕ) → slice_get (xs ++ x ∷ []) k ≡ Some y → (slice_get xs k ≡ Some y) ⊎ ((k ≡ length xs) × (x ≡ y))
push_from [] x y zero at = inr (refl, same_Some _ _ at)
push_from [] x y (suc k) at = cc
push_from (z ∷ xs) x y zero at = inl at
push_from (z ∷ xs) x y (suc k) at = elim (push_from xs x y k at) [ inl was ↦ inl was | inr is ↦ inr (omega (arith, is.0), is.1) ]

-- ---- sizes

module _ (d : Listing) (found : List Found) (held : List Bool) (sized : IsSized d found held) (id : Puid) (by : ℕ) (kind : Kind) (below : id.block < d.room) (free : has_root_in d.named id.block ≡ false) where
  abbrev pushed : Found
  pushed = record { block = id.block; by = by }

  fresh : (k : ℕ) (x : Found) → slice_get found k ≡ Some x → x.block ≢ id.block
  fresh k x at same = let no = sym free ∙ ap (has_root_in d.named) (sym same) ∙ sized.listed k x at in cc

  pub sized_push : IsSized (record { named = insert_entry puid_cmp d.named id kind; room = d.room }) (found ++ pushed ∷ []) held
  sized_push = record {
    each = λ k x at. elim (push_from found pushed x k at) [
      | inl was ↦ sized.each k x was
      | inr now ↦ subst (λ (z : Found). z.block < d.room) now.1 below
    ];
    listed = λ k x at. elim (push_from found pushed x k at) [
      | inl was ↦ root_then d.named id x.block kind (sized.listed k x was)
      | inr now ↦ subst (λ (z : Found). has_root_in (insert_entry puid_cmp d.named id kind) z.block ≡ true) now.1 (has_root (insert_entry puid_cmp d.named id kind) id (listed_new d.named id kind))
    ];
    once = λ j k x y one two same. elim (push_from found pushed x j one) [
      | inl old ↦ elim (push_from found pushed y k two) [
        | inl was ↦ sized.once j k x y old was same
        | inr now ↦ absurd (fresh j x old (same ∙ ap (λ (z : Found). z.block) (sym now.1)))
      ]
      | inr first ↦ elim (push_from found pushed y k two) [
        | inl was ↦ absurd (fresh k y was (sym same ∙ ap (λ (z : Found). z.block) (sym first.1)))
        | inr now ↦ first.0 ∙ sym now.0
      ]
    ];
    marks = sized.marks;
  }

pub sized_again : (d : Listing) (found : List Found) (held : List Bool) → IsSized d found held → (id : Puid) (kind : Kind) → listed d.named id ≡ true → IsSized (record { named = insert_entry puid_cmp (without_id d.named id) id kind; room = d.room }) found held
sized_again d found held sized id kind there = record {
  each = sized.each;
  listed = λ k x at. root_again d.named id x.block kind there (sized.listed k x at);
  once = sized.once;
  marks = sized.marks;
}

-- ---- the graph

-- an object of a graph is listed among its kinds
pub listed_there : (g : Graph) (x : Puid) (o : Object) → object_at g x ≡ Some o → listed (kinds_of g) x ≡ true
listed_there g x o at = ap is_some (directory_kind-kinds_in g.objects x) ∙ ap (λ (p : Option Object). is_some (option_map object_kind p)) at

pub there_listed : (g : Graph) (x : Puid) → listed (kinds_of g) x ≡ true → is_there g x ≡ true
there_listed g x is = at (object_at g x) (sym (ap is_some (directory_kind-kinds_in g.objects x)) ∙ is)
  where
    at : (p : Option Object) → is_some (option_map object_kind p) ≡ true → is_some p ≡ true
    at None none = cc
    at (Some o) some = refl

-- ---- what is kept as a walk grows

pub grows_then : (a b c : Walk) → Grows a b → Grows b c → Grows a c
grows_then a b c one two = record {
  room = two.room ∙ one.room;
  listed = λ x was. two.listed x (one.listed x was);
  found = λ k x at. two.found k x (one.found k x at);
  held = λ n was. two.held n (one.held n was);
  clash = λ some. two.clash (one.clash some);
}

module _ (image : Image) (w v : Walk) (grows : Grows w v) where
  pub found_on : (x : Found) → IsFoundItem image w x → IsFoundItem image v x
  found_on x is = record { id = is.id; listed = grows.listed is.id is.listed; block = is.block; some = is.some; named = is.named }

  pub taken_on : (id : Puid) (o : Object) → IsWalkedObject image w id o → IsWalkedObject image v id o
  taken_on id o is = record {
    reached = is.reached;
    reads = is.reads;
    leads = λ x among. noted_on w v grows x (is.leads x among);
    sort = is.sort;
    root = grows.held id.block is.root;
    below = λ path h there. grows.held h.block (is.below path h there);
  }

  pub clash_on : (by : ℕ) → IsClash image w by → IsClash image v by
  clash_on by is = record { id = is.id; other = is.other; named = is.named; listed = grows.listed is.other is.listed; block = is.block; word = is.word }

-- the list stays, and there may be another clash, and more that is held
module _ (image : Image) (w v : Walk) (done : ℕ) (walk : IsWalk image w done) (grows : Grows w v) (directory : v.directory ≡ w.directory) (found : v.found.items ≡ w.found.items) where
  listed_back : (x : Puid) → lists v x ≡ true → lists w x ≡ true
  listed_back x is = subst (λ (n : Listing). listed n.named x ≡ true) directory is

  at_back : (k : ℕ) (x : Found) → slice_get v.found.items k ≡ Some x → slice_get w.found.items k ≡ Some x
  at_back k x at = ap (λ (xs : List Found). slice_get xs k) (sym found) ∙ at

  pub walk_as : ((n : ℕ) → holds v n ≡ true → IsKeptBlock image n) → ((by : ℕ) → v.clash ≡ Some by → IsClash image v by) → IsWalk image v done
  walk_as held clash = record {
    graph = walk.graph;
    named = ap (λ (n : Listing). n.named) directory ∙ walk.named;
    ordered = walk.ordered;
    root = walk.root;
    room = ap (λ (n : Listing). n.room) directory ∙ walk.room;
    within = subst (λ (xs : List Found). done ≤ length xs) (sym found) walk.within;
    found = λ k x at. found_on image w v grows x (walk.found k x (at_back k x at));
    once = λ j k x y one two same. walk.once j k x y (at_back j x one) (at_back k y two) same;
    listed = λ x is. let was = walk.listed x (listed_back x is) in (was.0, was.1, grows.found was.0 was.1 was.2, was.3);
    taken = λ k x id o less at is there. taken_on image w v grows id o (walk.taken k x id o less (at_back k x at) is there);
    held = held;
    clash = clash;
  }

-- ---- a block is held

module _ (image : Image) (w v : Walk) (block : ℕ) (directory : v.directory ≡ w.directory) (found : v.found.items ≡ w.found.items) (clash : v.clash ≡ w.clash)
    (held : v.held.items ≡ set w.held.items block true) (inside : block < length w.held.items) where
  holds_set : (n : ℕ) → (n ≡ block) ⊎ (holds v n ≡ holds w n)
  holds_set n = elim (cases_eq n block) [
    | inl is ↦ inl is
    | inr other ↦ inr (ap (λ (hs : List Bool). get_or hs n false) held ∙ get_or-set_other w.held.items block n true false other)
  ]

  pub holds_it : holds v block ≡ true
  holds_it = ap (λ (hs : List Bool). get_or hs block false) held ∙ get_or-set_same w.held.items block true false inside

  pub hold_grows : Grows w v
  hold_grows = record {
    room = ap (λ (n : Listing). n.room) directory;
    listed = λ x was. subst (λ (n : Listing). listed n.named x ≡ true) (sym directory) was;
    found = λ k x at. ap (λ (xs : List Found). slice_get xs k) found ∙ at;
    held = λ n was. elim (holds_set n) [ inl is ↦ ap (holds v) is ∙ holds_it | inr same ↦ same ∙ was ];
    clash = λ some. subst IsSome (sym clash) some;
  }

  pub hold_walk : (done : ℕ) → IsWalk image w done → IsKeptBlock image block → IsWalk image v done
  hold_walk done walk kept = walk_as image w v done walk hold_grows directory found
      (λ n is. elim (holds_set n) [ inl same ↦ subst (λ (m : ℕ). IsKeptBlock image m) (sym same) kept | inr same ↦ walk.held n (sym same ∙ is) ])
      (λ by is. clash_on image w v hold_grows by (walk.clash by (sym clash ∙ is)))

-- ---- an identifier clashes with one that is listed

module _ (image : Image) (w v : Walk) (id : Puid) (by : ℕ) (directory : v.directory ≡ w.directory) (found : v.found.items ≡ w.found.items) (held : v.held.items ≡ w.held.items) (clash : v.clash ≡ Some by) where
  pub clash_grows : Grows w v
  clash_grows = record {
    room = ap (λ (n : Listing). n.room) directory;
    listed = λ x was. subst (λ (n : Listing). listed n.named x ≡ true) (sym directory) was;
    found = λ k x at. ap (λ (xs : List Found). slice_get xs k) found ∙ at;
    held = λ n was. ap (λ (hs : List Bool). get_or hs n false) held ∙ was;
    clash = λ some. subst IsSome (sym clash) refl;
  }

  pub clash_walk : (done : ℕ) → IsWalk image w done → IsNamed image id by → lists w id ≡ false → has_root_in w.directory.named id.block ≡ true → IsWalk image v done
  clash_walk done walk is_named unlisted has =
      let other = listed_of_root w.directory.named id.block has in
      let apart : id.word ≢ other.0.word = λ same. let is : id ≡ other.0 = (let block = sym other.2 in λ i. record { block = block i; word = same i }) in
      let no = sym (ap (lists w) is ∙ other.1) ∙ unlisted in cc in
      walk_as image w v done walk clash_grows directory found
      (λ n is. walk.held n (ap (λ (hs : List Bool). get_or hs n false) (sym held) ∙ is))
      (λ b is. let same : by ≡ b = same_Some _ _ (sym clash ∙ is) in subst (IsClash image v) same (record {
        id = id;
        other = other.0;
        named = is_named;
        listed = clash_grows.listed other.0 other.1;
        block = sym other.2;
        word = apart;
      }))

-- ---- an identifier is put on the list

module _ (image : Image) (w v : Walk) (id : Puid) (by : ℕ) (directory : v.directory ≡ record { named = insert_entry puid_cmp w.directory.named id kinds.Index; room = w.directory.room })
    (found : v.found.items ≡ w.found.items ++ record { block = id.block; by = by } ∷ []) (held : v.held.items ≡ w.held.items) (clash : v.clash ≡ w.clash) where
  abbrev item : Found
  item = record { block = id.block; by = by }

  add_at : (k : ℕ) (x : Found) → slice_get v.found.items k ≡ Some x → (slice_get w.found.items k ≡ Some x) ⊎ ((k ≡ length w.found.items) × (item ≡ x))
  add_at k x at = push_from w.found.items item x k (ap (λ (xs : List Found). slice_get xs k) (sym found) ∙ at)

  add_new : slice_get v.found.items (length w.found.items) ≡ Some item
  add_new = ap (λ (xs : List Found). slice_get xs (length w.found.items)) found ∙ push_new w.found.items item

  pub add_listed : lists v id ≡ true
  add_listed = subst (λ (n : Listing). listed n.named id ≡ true) (sym directory) (listed_new w.directory.named id kinds.Index)

  pub add_grows : Grows w v
  add_grows = record {
    room = ap (λ (n : Listing). n.room) directory;
    listed = λ x was. subst (λ (n : Listing). listed n.named x ≡ true) (sym directory) (listed_then w.directory.named id x kinds.Index was);
    found = λ k x at. ap (λ (xs : List Found). slice_get xs k) found ∙ push_old w.found.items item x k at;
    held = λ n was. ap (λ (hs : List Bool). get_or hs n false) held ∙ was;
    clash = λ some. subst IsSome (sym clash) some;
  }

  module _ (done : ℕ) (walk : IsWalk image w done) (is_named : IsNamed image id by) (some : id.block ≢ 0) (free : has_root_in w.directory.named id.block ≡ false) where
    -- no item before has its root block
    apart : (k : ℕ) (x : Found) → slice_get w.found.items k ≡ Some x → x.block ≢ id.block
    apart k x at same =
        let was = walk.found k x at in
        let has = has_root w.directory.named was.id was.listed in
        let no = sym (ap (has_root_in w.directory.named) (sym was.block ∙ same) ∙ free) ∙ has in cc

    abbrev after : Graph
    after = with_object walk.graph id (objects.Index (new_index 0))

    is_old : (k : ℕ) (x : Found) → k < done → slice_get v.found.items k ≡ Some x → slice_get w.found.items k ≡ Some x
    is_old k x less at = elim (add_at k x at) [ inl was ↦ was | inr now ↦ absurd (omega (arith, now.0, walk.within)) ]

    object_back : (i : Puid) (o : Object) → i.block ≢ id.block → object_at after i ≡ Some o → object_at walk.graph i ≡ Some o
    object_back i o other at =
        let differ : same_puid i id ≡ false = false_from_ne_true _ (λ same. other (ap (λ (p : Puid). p.block) (same_puid_is i id same))) in
        ap (λ (b : Bool). cond b (Some (objects.Index (new_index 0))) (object_at walk.graph i)) (sym differ) ∙ sym (object_at-with_object walk.graph id (objects.Index (new_index 0)) i) ∙ at

    pub add_walk : IsWalk image v done
    add_walk = record {
      graph = after;
      named = ap (λ (n : Listing). n.named) directory ∙ ap (λ (n : List (Puid × Kind)). insert_entry puid_cmp n id kinds.Index) walk.named
          ∙ sym (kinds_in-insert_entry walk.graph.objects id (objects.Index (new_index 0)));
      ordered = rises-with_object walk.graph id (objects.Index (new_index 0)) walk.ordered;
      root = walk.root;
      room = ap (λ (n : Listing). n.room) directory ∙ walk.room;
      within = omega (arith, walk.within, ap (length {A = Found}) found, length-append w.found.items (item ∷ []));
      found = λ k x at. elim (add_at k x at) [
        | inl was ↦ found_on image w v add_grows x (walk.found k x was)
        | inr now ↦ subst (IsFoundItem image v) now.1 (record { id = id; listed = add_listed; block = refl; some = some; named = is_named })
      ];
      once = λ j k x y one two same. elim (add_at j x one) [
        | inl old ↦ elim (add_at k y two) [
          | inl was ↦ walk.once j k x y old was same
          | inr now ↦ absurd (apart j x old (same ∙ ap (λ (z : Found). z.block) (sym now.1)))
        ]
        | inr first ↦ elim (add_at k y two) [
          | inl was ↦ absurd (apart k y was (sym same ∙ ap (λ (z : Found). z.block) (sym first.1)))
          | inr now ↦ first.0 ∙ sym now.0
        ]
      ];
      listed = λ x is. listed_from (λ y. (k : ℕ) × (z : Found) × (slice_get v.found.items k ≡ Some z) × (z.block ≡ y.block)) w.directory.named id x kinds.Index
          (length w.found.items, item, add_new, refl)
          (λ was. let at = walk.listed x was in (at.0, at.1, add_grows.found at.0 at.1 at.2, at.3))
          (subst (λ (n : Listing). listed n.named x ≡ true) directory is);
      taken = λ k x i o less at same there.
          let old = is_old k x less at in
          taken_on image w v add_grows i o (walk.taken k x i o less old same (object_back i o (λ is. apart k x old (same ∙ is)) there));
      held = λ n is. walk.held n (ap (λ (hs : List Bool). get_or hs n false) (sym held) ∙ is);
      clash = λ b is. clash_on image w v add_grows b (walk.clash b (sym clash ∙ is));
    }
