-- A walk that begins, and one that learns of what kind an object is.
use Rattle.std.proofs.Common.{◌≡◌, ◌⊎◌, inl, inr, ℕ, ◌+◌, Bool, true, false, cond, ◌||◌, not, List, [], ◌∷◌, length, get_or, Some, None, refl, sym, ◌∙◌, ap, subst, arith}
use Rattle.cfs_recover.proofs.Words.{Found, Graph, Grows, HasLabel, Image, IsNextItem, IsSome, IsWalkedObject, IsWalk, Kind, Label, Listing, Object, Puid, Walk, cases_lt, filter, fun_ext, holds, insert_entry, is_among, is_listing, object_kind, kinds_in-filter, kinds_in-insert_entry, kinds_of, lists, object_at, object_at-with_object, object_at-without, puid_cmp, rises-with_object, rises-without, same_Some, same_puid, same_puid_is, same_puid_itself, slice_get, slice_get_within, with_object, without, without_id}
use Rattle.cfs_recover.proofs.Listings.{is_alone, left, listed, listed_from, put_again}
use Rattle.cfs_recover.proofs.Noting.{clash_on, found_on, listed_there, taken_on}

-- ---- an object is learnt

module _ (image : Image) (w v : Walk) (id : Puid) (kind : Kind) (directory : v.directory ≡ record { named = insert_entry puid_cmp (without_id w.directory.named id) id kind; room = w.directory.room })
    (found : v.found.items ≡ w.found.items) (held : v.held.items ≡ w.held.items) (clash : v.clash ≡ w.clash) (here : lists w id ≡ true) where
  learn_listed : (x : Puid) → lists w x ≡ true → lists v x ≡ true
  learn_listed x was = subst (λ (n : Listing). listed n.named x ≡ true) (sym directory) (put_again w.directory.named id x kind was)

  pub learn_grows : Grows w v
  learn_grows = record {
    room = ap (λ (n : Listing). n.room) directory;
    listed = learn_listed;
    found = λ k x at. ap (λ (xs : List Found). slice_get xs k) found ∙ at;
    held = λ n was. ap (λ (hs : List Bool). get_or hs n false) held ∙ was;
    clash = λ some. subst IsSome (sym clash) some;
  }

  listed_before : (x : Puid) → lists v x ≡ true → lists w x ≡ true
  listed_before x is = listed_from (λ y. lists w y ≡ true) (without_id w.directory.named id) id x kind here (λ was. (left w.directory.named id x was).0) (subst (λ (n : Listing). listed n.named x ≡ true) directory is)

  module _ (done : ℕ) (o : Object) (walk : IsWalk image w done) (listing : is_listing w.directory ≡ true) (next : IsNextItem w.found.items done id.block) (is_kind : object_kind o ≡ kind) (taken : IsWalkedObject image w id o) where
    abbrev rest : Graph
    rest = without walk.graph (id ∷ [])

    abbrev learnt : Graph
    learnt = with_object rest id o

    all_but : kinds_of rest ≡ without_id (kinds_of walk.graph) id
    all_but = kinds_in-filter (λ x. not (is_among x (id ∷ []))) walk.graph.objects
        ∙ ap (λ (test : Puid → Bool). filter (λ e. not (test e.0)) (kinds_of walk.graph)) (fun_ext (λ x. or_false (same_puid x id)))
      where
        or_false : (b : Bool) → (b || false) ≡ b
        or_false true = refl
        or_false false = refl

    learnt_at : (x : Puid) (p : Object) → object_at learnt x ≡ Some p → ((x ≡ id) × (o ≡ p)) ⊎ ((same_puid x id ≡ false) × (object_at walk.graph x ≡ Some p))
    learnt_at x p at = is (same_puid x id) refl (sym (object_at-with_object rest id o x) ∙ at)
      where
        is : (b : Bool) → same_puid x id ≡ b → cond b (Some o) (object_at rest x) ≡ Some p → ((x ≡ id) × (o ≡ p)) ⊎ ((same_puid x id ≡ false) × (object_at walk.graph x ≡ Some p))
        is true same there = inl (same_puid_is x id same, same_Some _ _ there)
        is false other there = inr (other, at_rest (same_puid x id) other (sym (object_at-without walk.graph (id ∷ []) x) ∙ there))
          where
            at_rest : (c : Bool) → c ≡ false → cond (not (c || false)) (object_at walk.graph x) None ≡ Some p → object_at walk.graph x ≡ Some p
            at_rest true differ was = cc
            at_rest false differ was = was

    at_old : (k : ℕ) (x : Found) → slice_get v.found.items k ≡ Some x → slice_get w.found.items k ≡ Some x
    at_old k x at = ap (λ (xs : List Found). slice_get xs k) (sym found) ∙ at

    pub learn_walk : IsWalk image v (done + 1)
    learn_walk = record {
      graph = learnt;
      named = ap (λ (n : Listing). n.named) directory ∙ ap (λ (n : List (Puid × Kind)). insert_entry puid_cmp n id kind) (ap (λ (n : List (Puid × Kind)). without_id n id) walk.named ∙ sym all_but)
          ∙ ap (λ (k : Kind). insert_entry puid_cmp (kinds_of rest) id k) (sym is_kind) ∙ sym (kinds_in-insert_entry rest.objects id o);
      ordered = rises-with_object rest id o (rises-without walk.graph (id ∷ []) walk.ordered);
      root = walk.root;
      room = ap (λ (n : Listing). n.room) directory ∙ walk.room;
      within = omega (arith, slice_get_within w.found.items done next.item next.here, ap (length {A = Found}) found);
      found = λ k x at. found_on image w v learn_grows x (walk.found k x (at_old k x at));
      once = λ j k x y one two same. walk.once j k x y (at_old j x one) (at_old k y two) same;
      listed = λ x is. let was = walk.listed x (listed_before x is) in (was.0, was.1, learn_grows.found was.0 was.1 was.2, was.3);
      taken = λ k x i p less at same there. taken_on image w v learn_grows i p (elim (learnt_at i p there) [
        | inl now ↦ subst (λ (j : Puid). IsWalkedObject image w j p) (sym now.0) (subst (IsWalkedObject image w id) now.1 taken)
        | inr was ↦ elim (cases_lt k done) [
          | inl before ↦ walk.taken k x i p before (at_old k x at) same was.1
          | inr last ↦
              let is_last : k ≡ done = omega arith in
              let is_item : next.item ≡ x = same_Some _ _ (sym next.here ∙ ap (slice_get w.found.items) (sym is_last) ∙ at_old k x at) in
              let listed_i : lists w i ≡ true = ap (λ (n : List (Puid × Kind)). listed n i) walk.named ∙ listed_there walk.graph i p was.1 in
              let is : i ≡ id = is_alone w.directory listing i id listed_i here (sym same ∙ ap (λ (z : Found). z.block) (sym is_item) ∙ next.is) in
              let no = sym (ap (λ (j : Puid). same_puid j id) is ∙ same_puid_itself id) ∙ was.0 in cc
        ]
      ]);
      held = λ n is. walk.held n (ap (λ (hs : List Bool). get_or hs n false) (sym held) ∙ is);
      clash = λ b is. clash_on image w v learn_grows b (walk.clash b (sym clash ∙ is));
    }

-- ---- a walk begins

pub walk_begins : (image : Image) (w : Walk) (label : Label) → w.directory.named ≡ [] → w.directory.room ≡ length image → w.found.items ≡ [] → ((n : ℕ) → holds w n ≡ false) → w.clash ≡ None
    → ((other : Label) → HasLabel image other → label.root ≡ other.root) → IsWalk image w 0
walk_begins image w label named room found held clash root = record {
  graph = record { root = label.root; objects = [] };
  named = named;
  ordered = refl;
  root = root;
  room = room;
  within = omega arith;
  found = λ k x at. absurd (none k x at);
  once = λ j k x y one two same. absurd (none j x one);
  listed = λ x is. let no = sym (ap (λ (n : List (Puid × Kind)). listed n x) named) ∙ is in cc;
  taken = λ k x id o less at is there. absurd (none k x at);
  held = λ n is. let no = sym (held n) ∙ is in cc;
  clash = λ by is. let no = sym clash ∙ is in cc;
}
  where
    none : (k : ℕ) (x : Found) → slice_get w.found.items k ≡ Some x → ⊥
    none k x at = let no = sym (ap (λ (xs : List Found). slice_get xs k) found) ∙ at in cc
