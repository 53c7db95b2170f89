-- What a request goes to, and what comes of it where another object or draft is put there.
use Rattle.std.proofs.Common.{◌≡◌, ◌⊎◌, inl, inr, ℕ, ◌+◌, ◌≤◌, List, [], ◌∷◌, refl, sym, ◌∙◌, ap, subst, arith, Bool, true, false, cond, ◌||◌, not, Option, Some, None, drop}
use Rattle.marking.proofs.Words.{Change, Changes, Colours, Direct, Draft, Fill, Grant, Graph, Object, Overwrite, Puid, Ref, Reply, Request, Rescue, SetSize, State, Through, Tuid, Waits, changed_object, conditions, draft_at, draft_of, find, first_of, grant_of, has_no_grant, has_no_object, ids_of, if◌then◌else◌, in_leaf, is_among, is_grant, is_index_there, is_none, is_remembered, is_some, is_there, joined_has_new, kind_standing, map, named, object_at, object_at-with_object, object_there, open_ids, or_left, or_right, own_part, put, read_in, refusal_of, rises, same_Some, same_puid, same_puid_is, same_puid_itself, seen, unread, with_object}
use Rattle.std.proofs.Common.{length}
use Rattle.ufs_model.specs.declared.asked.Request.TheVariants as asks
use Rattle.ufs_model.specs.declared.asked.Reply.TheVariants as replies
use Rattle.ufs_model.specs.declared.object.Object.TheVariants as objects
use Rattle.marking.proofs.Wells.{IsWell}
use Rattle.ufs_model.specs.State.{with_draft}
use Rattle.ufs_model.specs.Refusal.{names_file, names_index, is_read_only, is_locked, meets_a_grant}
use Rattle.ufs_model.specs.Need.{one_if}
use Rattle.marking.proofs.Places.{at_own}
use Rattle.marking.proofs.Unread.{added, some_wait, unread_changed, unread_one, ids_same}
use Rattle.marking.proofs.Replaced.{fill_adds, fill_reads, now, same_graph, with_one}
use Rattle.ufs_model.proofs.Drafts.{not_open}

-- ---- a request that is not refused goes to an object that is there

pub or_parts : (a b : Bool) → (a || b) ≡ false → (a ≡ false) × (b ≡ false)
or_parts false b h = (refl, h)
or_parts true b h = cc

not_false : (b : Bool) → not b ≡ false → b ≡ true
not_false true h = refl
not_false false h = cc

none_if : (b : Bool) (r : Reply) (o : Option Reply) → cond b (Some r) o ≡ None → (b ≡ false) × (o ≡ None)
none_if false r o h = (refl, h)
none_if true r o h = cc

pub unrefused : (s : State) (who : ℕ) (request : Request) → refusal_of s who request ≡ None → (has_no_grant s who request ≡ false) × (has_no_object s request ≡ false) × (is_locked s who request ≡ false)
unrefused s who request h =
    let one = none_if (has_no_grant s who request) replies.NoGrant (first_of (drop 1 (conditions s who request))) h in
    let two = none_if (has_no_object s request) replies.NoObject (first_of (drop 2 (conditions s who request))) one.1 in
    let three = none_if (names_file s who request) replies.NotIndex (first_of (drop 3 (conditions s who request))) two.1 in
    let four = none_if (names_index s who request) replies.NotFile (first_of (drop 4 (conditions s who request))) three.1 in
    let five = none_if (is_read_only s who request) replies.ReadOnly (first_of (drop 5 (conditions s who request))) four.1 in
    let six = none_if (is_locked s who request) replies.Locked (first_of (drop 6 (conditions s who request))) five.1 in
    (one.0, two.0, six.0)

-- a grant that is found is that of an object that is open
grant_open : (who : ℕ) (t : Tuid) (grants : List Grant) (g : Grant) → find (is_grant who t) grants ≡ Some g → is_among g.id (map (λ x. x.id) grants) ≡ true
grant_open who t [] g h = cc
grant_open who t (x ∷ xs) g h = elim (is_grant who t x) as (λ b. cond b (Some x) (find (is_grant who t) xs) ≡ Some g → is_among g.id (map (λ y. y.id) (x ∷ xs)) ≡ true) [
  | true ↦ λ here. or_left (same_puid g.id x.id) (is_among g.id (map (λ y. y.id) xs)) (let same : x ≡ g = same_Some x g here in subst (λ (y : Grant). same_puid y.id x.id ≡ true) same (same_puid_itself x.id))
  | false ↦ λ later. or_right (same_puid g.id x.id) (is_among g.id (map (λ y. y.id) xs)) (grant_open who t xs g later)
] h

pub record GoesTo (s : State) (who : ℕ) (ref : Ref) : Type 0 where
  pub id : Puid
  pub object : Object
  pub is : named s who ref ≡ Some id
  pub there : object_at s.graph id ≡ Some object
  -- it goes to the draft, where the object has one
  pub alone : draft_of s who ref ≡ None → draft_at s.grants id ≡ None

pub goes_to : (s : State) → IsWell s → (who : ℕ) (ref : Ref) → has_no_grant s who (asks.Slots ref) ≡ false → has_no_object s (asks.Slots ref) ≡ false → meets_a_grant s true ref ≡ false → GoesTo s who ref
goes_to s well who (Direct id) grant object free =
    let o = object_there s.graph id (not_false (is_there s.graph id) (or_parts _ false object).0) in
    record { id = id; object = o.0; is = refl; there = o.1; alone = λ none. not_open s.grants id free }
goes_to s well who (Through t) grant object free = at (grant_of s who t) refl grant
  where
    at : (o : Option Grant) → grant_of s who t ≡ o → is_none o ≡ false → GoesTo s who (Through t)
    at None is some = cc
    at (Some g) is some =
        let there = object_there s.graph g.id (well.closed None 0 g.id (joined_has_new (open_ids s) (s.graph.root ∷ []) g.id (grant_open who t s.grants g is))) in
        record { id = g.id; object = there.0; is = rw is refl; there = there.1; alone = λ none. well.no_other who t g is (rw is at none) }

-- ---- what is put where a reference goes

-- a draft is changed, of a grant that stays, or the object is
pub data IsPut (s : State) (who : ℕ) (ref : Ref) (d : Draft) (id : Puid) : Type 0 where
  ToDraft : (old : Draft) → draft_of s who ref ≡ Some old → (put s who ref d).graph ≡ s.graph → open_ids (put s who ref d) ≡ open_ids s → (put s who ref d).collection ≡ s.collection → IsPut s who ref d id
  ToObject : (put s who ref d).graph ≡ with_object s.graph id d.object → (put s who ref d).grants ≡ s.grants → (put s who ref d).collection ≡ s.collection → draft_of s who ref ≡ None → IsPut s who ref d id

same_ids : (who : ℕ) (t : Tuid) (d : Draft) (grants : List Grant) → map (λ g. g.id) (map (λ g. if is_grant who t g then record g { draft = Some d } else g) grants) ≡ map (λ g. g.id) grants
same_ids who t d [] = refl
same_ids who t d (g ∷ gs) = elim (is_grant who t g) as (λ b. (if b then record g { draft = Some d } else g).id ∷ map (λ g. g.id) (map (λ g. if is_grant who t g then record g { draft = Some d } else g) gs) ≡ g.id ∷ map (λ g. g.id) gs) [
  | true ↦ ap (λ ids. g.id ∷ ids) (same_ids who t d gs)
  | false ↦ ap (λ ids. g.id ∷ ids) (same_ids who t d gs)
]

pub is_put : (s : State) (who : ℕ) (ref : Ref) (d : Draft) (id : Puid) → named s who ref ≡ Some id → IsPut s who ref d id
is_put s who (Direct x) d id is = ToObject (ap (λ k. with_object s.graph k d.object) (same_Some x id is)) refl refl refl
is_put s who (Through t) d id is = at (grant_of s who t) refl
  where
    at : (o : Option Grant) → grant_of s who t ≡ o → IsPut s who (Through t) d id
    at None found = let none : named s who (Through t) ≡ None = rw found refl in cc
    at (Some g) found = which g.draft refl
      where
        which : (o : Option Draft) → g.draft ≡ o → IsPut s who (Through t) d id
        which (Some old) draft = let some : draft_of s who (Through t) ≡ Some old = rw (found, draft) refl in ToDraft old some (rw (some, put) refl) (rw (some, put) (same_ids who t d s.grants)) (rw (some, put) refl)
        which None draft = let none : draft_of s who (Through t) ≡ None = rw (found, draft) refl in ToObject (rw (none, put) (rw is refl)) (rw (none, put) (rw is refl)) (rw (none, put) (rw is refl)) none

-- ---- what is seen there, changed

keeps_kind : (c : Change) (o : Object) → kind_standing (Some (changed_object c o)) ≡ kind_standing (Some o)
keeps_kind (Fill slot what) (objects.Index i) = refl
keeps_kind (Fill slot what) (objects.File f) = refl
keeps_kind (Overwrite offset bytes) (objects.Index i) = refl
keeps_kind (Overwrite offset bytes) (objects.File f) = refl
keeps_kind (SetSize size) (objects.Index i) = refl
keeps_kind (SetSize size) (objects.File f) = refl

keeps_read : (c : Change) (o : Object) (k : Puid) (colours : Colours) → read_in colours (k, o) ≤ read_in colours (k, changed_object c o)
keeps_read (Fill slot what) (objects.Index i) k colours = fill_reads colours k i slot what
keeps_read (Fill slot what) (objects.File f) k colours = omega arith
keeps_read (Overwrite offset bytes) (objects.Index i) k colours = omega arith
keeps_read (Overwrite offset bytes) (objects.File f) k colours = omega arith
keeps_read (SetSize size) (objects.Index i) k colours = omega arith
keeps_read (SetSize size) (objects.File f) k colours = omega arith

pub adds : (c : Change) (o : Object) (leaf : ℕ) (x : Puid) → in_leaf (Some (changed_object c o)) leaf x ≡ true → (in_leaf (Some o) leaf x ≡ true) ⊎ (added c ≡ Some x)
adds (Fill slot what) (objects.Index i) leaf x h = fill_adds i slot what x leaf h
adds (Fill slot what) (objects.File f) leaf x h = inl h
adds (Overwrite offset bytes) (objects.Index i) leaf x h = inl h
adds (Overwrite offset bytes) (objects.File f) leaf x h = inl h
adds (SetSize size) (objects.Index i) leaf x h = inl h
adds (SetSize size) (objects.File f) leaf x h = inl h

-- of an object without a draft no draft is found
pub undrafted : (gs hs : List Grant) (k i : Puid) (leaf : ℕ) (x : Puid) → draft_at gs k ≡ None → hs ≡ gs → in_leaf (draft_at hs i) leaf x ≡ true → (same_puid i k ≡ false) × (in_leaf (draft_at gs i) leaf x ≡ true)
undrafted gs hs k i leaf x none same h =
    let now : in_leaf (draft_at gs i) leaf x ≡ true = subst (λ (l : List Grant). in_leaf (draft_at l i) leaf x ≡ true) same h in (
      elim (same_puid i k) as (λ b. same_puid i k ≡ b → b ≡ false) [
        | true ↦ λ is. (let no : in_leaf None leaf x ≡ true = subst (λ (o : Option Object). in_leaf o leaf x ≡ true) (ap (draft_at gs) (same_puid_is i k is) ∙ none) now in cc)
        | false ↦ λ is. refl
      ] refl,
      now,
    )

-- what is put into a draft is the draft of the object from then on
pub record TakesDrafts (s : State) (who : ℕ) (ref : Ref) (id : Puid) : Type 0 where
  pub was : (old : Draft) → draft_of s who ref ≡ Some old → draft_at s.grants id ≡ Some old.object
  pub puts : (old d : Draft) → draft_of s who ref ≡ Some old → (i : Puid) → draft_at (put s who ref d).grants i ≡ cond (same_puid i id) (Some d.object) (draft_at s.grants i)

pub takes_drafts : (s : State) → IsWell s → (who : ℕ) (ref : Ref) (id : Puid) → named s who ref ≡ Some id → TakesDrafts s who ref id
takes_drafts s well who (Direct x) id is = record { was = λ old h. cc; puts = λ old d h i. cc }
takes_drafts s well who (Through t) id is = at (grant_of s who t) refl
  where
    at : (o : Option Grant) → grant_of s who t ≡ o → TakesDrafts s who (Through t) id
    at None found = record {
      was = λ old h. (let no : None ≡ Some old = rw found at h in cc);
      puts = λ old d h i. (let no : None ≡ Some old = rw found at h in cc);
    }
    at (Some g) found = record {
      was = λ old h. subst (λ (k : Puid). draft_at s.grants k ≡ Some old.object) its_id (well.drafts who t g old found (has old h));
      puts = λ old d h i. rw (h, put) (subst (λ (k : Puid). draft_at (with_draft who t d s.grants) i ≡ cond (same_puid i k) (Some d.object) (draft_at s.grants i)) its_id (well.put who t g old d i found (has old h)));
    }
      where
        its_id : g.id ≡ id
        its_id = same_Some g.id id (rw found at is)

        has : (old : Draft) → draft_of s who (Through t) ≡ Some old → g.draft ≡ Some old
        has old h = rw found at h

-- In a state m an object, or the draft of one, is replaced by what is seen there, changed; t is what comes of it.
module _ (m t : State) (up : rises (ids_of m.graph) ≡ true) (who : ℕ) (ref : Ref) (c : Change) (d : Draft) (to : GoesTo m who ref) (takes : TakesDrafts m who ref to.id) (more : List Rescue)
    (object : draft_of m who ref ≡ None → d.object ≡ changed_object c to.object) (draft : (old : Draft) → draft_of m who ref ≡ Some old → d.object ≡ changed_object c old.object)
    (graph : t.graph ≡ (put m who ref d).graph) (grants : t.grants ≡ (put m who ref d).grants)
    (rescues : (index : Option Puid) (x : Puid) → Waits more index x → is_remembered t.collection index x ≡ true)
    (of_this : (index : Option Puid) (x : Puid) → Waits more index x → index ≡ Some to.id)
    (memory : (index : Option Puid) (x : Puid) → is_remembered m.collection index x ≡ true → is_remembered t.collection index x ≡ true)
    (rescued : (x : Puid) → added c ≡ Some x → Waits more (Some to.id) x) where
  still_open : open_ids t ≡ open_ids m → (x : Puid) → is_among x (open_ids t) ≡ true → (is_among x (open_ids m) ≡ true) ⊎ Waits more None x
  still_open same x h = inl (subst (λ (ids : List Puid). is_among x ids ≡ true) same h)

  index_there : (g : Graph) → is_there g to.id ≡ true → t.graph ≡ g → (index : Option Puid) (x : Puid) → Waits more index x → (is_remembered t.collection index x ≡ true) × (is_index_there t.graph index ≡ true)
  index_there g there is index x w = (rescues index x w, subst (λ (i : Option Puid). is_index_there t.graph i ≡ true) (sym (of_this index x w)) (ap (λ (h : Graph). is_there h to.id) is ∙ there))

  in_drafts : (old : Draft) → draft_of m who ref ≡ Some old → (i : Puid) (leaf : ℕ) (x : Puid) → in_leaf (draft_at t.grants i) leaf x ≡ true → (in_leaf (draft_at m.grants i) leaf x ≡ true) ⊎ Waits more (Some i) x
  in_drafts old some i leaf x h =
      elim (same_puid i to.id) as (λ b. same_puid i to.id ≡ b → in_leaf (cond b (Some d.object) (draft_at m.grants i)) leaf x ≡ true → (in_leaf (draft_at m.grants i) leaf x ≡ true) ⊎ Waits more (Some i) x) [
        | true ↦ λ same at. subst (λ (j : Puid). (in_leaf (draft_at m.grants j) leaf x ≡ true) ⊎ Waits more (Some j) x) (sym (same_puid_is i to.id same))
            (elim (adds c old.object leaf x (subst (λ (o : Object). in_leaf (Some o) leaf x ≡ true) (draft old some) at)) [
              | inl was ↦ inl (subst (λ (o : Option Object). in_leaf o leaf x ≡ true) (sym (takes.was old some)) was)
              | inr new ↦ inr (rescued x new)
            ])
        | false ↦ λ other at. inl at
      ] refl (ap (λ (o : Option Object). in_leaf o leaf x) (sym (takes.puts old d some i)) ∙ ap (λ (gs : List Grant). in_leaf (draft_at gs i) leaf x) (sym grants) ∙ h)

  -- what is put into a slot is one leaf more at most, and has its rescue
  few : one_if (is_some (added c)) ≤ length more
  few = elim (added c) as (λ o. added c ≡ o → one_if (is_some o) ≤ length more) [ None ↦ λ is. omega arith | Some x ↦ λ is. some_wait more (Some to.id) x (rescued x is) ] refl

  left_in_draft : (old : Draft) → draft_of m who ref ≡ Some old → t.graph ≡ m.graph → (k : Colours) → unread t k ≤ unread m k + length more
  left_in_draft old some same = unread_one m t (length more) up to.id (ap ids_of same)
      (λ id r other. let is = now_draft id in rw (is, other, same) (omega arith))
      (λ r. let is = now_draft to.id in let was = takes.was old some in let new = draft old some in let less = unread_changed true r c old.object in
      rw (is, same_puid_itself to.id, was, new) (omega (arith, less, few)))
    where
      now_draft : (id : Puid) → draft_at t.grants id ≡ cond (same_puid id to.id) (Some d.object) (draft_at m.grants id)
      now_draft id = ap (λ (gs : List Grant). draft_at gs id) grants ∙ takes.puts old d some id

  left_in_graph : t.graph ≡ with_object m.graph to.id (changed_object c to.object) → t.grants ≡ m.grants → draft_at m.grants to.id ≡ None → (k : Colours) → unread t k ≤ unread m k + length more
  left_in_graph is same none = unread_one m t (length more) up to.id (ids_same m t to.id to.object (changed_object c to.object) up to.there is)
      (λ id r other. rw (now_object id, other, same) (omega arith))
      (λ r. let was = to.there in let less = unread_changed false r c to.object in
      rw (now_object to.id, same_puid_itself to.id, same, none, was) (omega (arith, less, few)))
    where
      now_object : (id : Puid) → object_at t.graph id ≡ cond (same_puid id to.id) (Some (changed_object c to.object)) (object_at m.graph id)
      now_object id = ap (λ (g : Graph). object_at g id) is ∙ object_at-with_object m.graph to.id (changed_object c to.object) id

  pub put_changes : Changes m t more
  put_changes = at (is_put m who ref d to.id to.is)
    where
      ids : open_ids t ≡ open_ids (put m who ref d)
      ids = ap (λ (gs : List Grant). map (λ (g : Grant). g.id) gs) grants

      at : IsPut m who ref d to.id → Changes m t more
      at (ToDraft old some same open_same kept) =
          same_graph m t more (index_there m.graph (ap is_some to.there) (graph ∙ same)) memory (still_open (ids ∙ open_same)) (left_in_draft old some (graph ∙ same)) (graph ∙ same) (λ i leaf x h none. in_drafts old some i leaf x h)
      at (ToObject is grants_same kept none) =
          let o = changed_object c to.object in
          let graph_is : t.graph ≡ with_object m.graph to.id o = graph ∙ is ∙ ap (with_object m.graph to.id) (object none) in
          let there : is_there (with_object m.graph to.id o) to.id ≡ true = ap is_some (object_at-with_object m.graph to.id o to.id) ∙ rw (same_puid_itself to.id) refl in
          with_one m t more (index_there (with_object m.graph to.id o) there graph_is) memory (still_open (ids ∙ ap (λ (gs : List Grant). map (λ (g : Grant). g.id) gs) grants_same)) (left_in_graph graph_is (grants ∙ grants_same) (to.alone none)) to.id o graph_is
          (λ old at_old. let same : to.object ≡ old = same_Some to.object old (sym to.there ∙ at_old) in
          subst (λ (w : Object). (kind_standing (Some o) ≡ kind_standing (Some w)) × ((k : Colours) → read_in k (to.id, w) ≤ read_in k (to.id, o))) same (keeps_kind c to.object, keeps_read c to.object to.id))
          (λ leaf x h. elim (adds c to.object leaf x h) [
            | inl was ↦ inl (now m (Some to.id) (own_part + leaf) x (at_own (draft_at m.grants to.id) (object_at m.graph to.id) leaf x (subst (λ (here : Option Object). in_leaf here leaf x ≡ true) (sym to.there) was)))
            | inr new ↦ inr (rescued x new)
          ])
          (λ i leaf x h free. undrafted m.grants t.grants to.id i leaf x (to.alone none) (grants ∙ grants_same) h)

-- what a reference shows is the draft
pub seen_draft : (s : State) (who : ℕ) (ref : Ref) (old : Draft) → draft_of s who ref ≡ Some old → (seen s who ref).object ≡ old.object
seen_draft s who ref old some = rw some refl

-- what a reference with no draft shows is the object
pub seen_is : (s : State) (who : ℕ) (ref : Ref) (to : GoesTo s who ref) → draft_of s who ref ≡ None → (seen s who ref).object ≡ to.object
seen_is s who ref to none = rw (none, to.is, to.there) refl
