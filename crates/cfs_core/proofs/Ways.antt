-- What refuses a request on its way, and what a table of grants tells of it.
use Rattle.std.proofs.Common.{◌≡◌, ℕ, List, [], ◌∷◌, ◌++◌, Bool, true, false, cond, not, ◌&&◌, ◌||◌, Option, Some, None, is_some, is_none, refl, sym, ◌∙◌, ap, subst, option_map, option_and_then}
use Rattle.cfs_core.proofs.Words.{AFile, and_parts, AnIndex, Direct, Draft, draft_of, Either, FileKind, goes_nowhere, goes_through_reading, Grant, grant_found, grant_of, has_no_such_grant, is_for_reading, is_draft_of, is_open_so, is_unwanted_file, is_unwanted_index, IsState, object_kind, meets_a_grant, named, Object, object_at, object_of, open_there, Puid, Ref, refusal_of, Reply, Request, same_kind, shown, State, target, Through, Wanted}
use Rattle.cfs_base.specs.declared.kind.FileKind.TheVariants as file_kinds
use Rattle.open_table.specs.declared.grant.OpenGrant as handles
use Rattle.ufs_model.specs.declared.asked.Reply.TheVariants as replies
use Rattle.ufs_model.specs.declared.object.Object.TheVariants as objects
use Rattle.ufs_model.specs.Refusal.{first_of}
use Rattle.cfs_core.specs.declared.way.Way.{Way}
use Rattle.cfs_core.specs.Drafts.{HasNoneOf}
use Rattle.cfs_core.specs.Ways.{Arrives, GoesBy, Reaches, is_gone, on_the_way, once_there, reads_by, unfit_of}

-- ---- the first that holds of more conditions

pub first_held : (cs ds : List (Bool × Reply)) (reply : Reply) → first_of cs ≡ Some reply → first_of (cs ++ ds) ≡ Some reply
first_held [] ds reply is = cc
first_held (c ∷ cs) ds reply is = elim c.0 as (λ b. cond b (Some c.1) (first_of cs) ≡ Some reply → cond b (Some c.1) (first_of (cs ++ ds)) ≡ Some reply) [
  | true ↦ λ h. h
  | false ↦ λ h. first_held cs ds reply h
] is

pub first_later : (cs ds : List (Bool × Reply)) → first_of cs ≡ None → first_of (cs ++ ds) ≡ first_of ds
first_later [] ds is = refl
first_later (c ∷ cs) ds is = elim c.0 as (λ b. cond b (Some c.1) (first_of cs) ≡ None → cond b (Some c.1) (first_of (cs ++ ds)) ≡ first_of ds) [
  | true ↦ λ h. cc
  | false ↦ λ h. first_later cs ds h
] is

-- ---- what a table of grants tells

pub named_of : (found : Option handles.OpenGrant) (o : Option Grant) → found ≡ option_map shown o → option_map (λ (g : handles.OpenGrant). g.id) found ≡ option_and_then (λ (g : Grant). Some g.id) o
named_of found None is = ap (option_map (λ (g : handles.OpenGrant). g.id)) is
named_of found (Some g) is = ap (option_map (λ (g : handles.OpenGrant). g.id)) is

pub reads_of : (found : Option handles.OpenGrant) (o : Option Grant) → found ≡ option_map shown o → reads_by found ≡ is_for_reading o
reads_of found None is = ap reads_by is
reads_of found (Some g) is = ap reads_by is

-- ---- a request on its way

module _ (s : State) (who : ℕ) (request : Request) (wants : Wanted) (way : Way) (goes_by : GoesBy request wants way) where
  pub refused_way : (reply : Reply) → first_of (on_the_way s who wants way) ≡ Some reply → refusal_of s who request ≡ Some reply
  refused_way reply is = ap first_of (goes_by.each s who) ∙ first_held (on_the_way s who wants way) (once_there s who request) reply is

  open_way : first_of (on_the_way s who wants way) ≡ None → refusal_of s who request ≡ first_of (once_there s who request)
  open_way is = ap first_of (goes_by.each s who) ∙ first_later (on_the_way s who wants way) (once_there s who request) is

-- the kind of what is there tells whether it is wanted
kind_tells : (wants : Wanted) (o : Object) → first_of ((is_unwanted_file wants (Some o), replies.NotIndex) ∷ (is_unwanted_index wants (Some o), replies.NotFile) ∷ []) ≡ unfit_of wants (Some (object_kind o))
kind_tells AnIndex (objects.Index i) = refl
kind_tells AFile (objects.Index i) = refl
kind_tells Either (objects.Index i) = refl
kind_tells wants (objects.File f) = at wants f.kind
  where
    at : (w : Wanted) (k : FileKind) → first_of ((is_unwanted_file w (Some (objects.File f)), replies.NotIndex) ∷ (is_unwanted_index w (Some (objects.File f)), replies.NotFile) ∷ []) ≡ unfit_of w (Some (object_kind (objects.File (record f { kind = k }))))
    at AnIndex file_kinds.Normal = refl
    at AnIndex file_kinds.Special = refl
    at AFile file_kinds.Normal = refl
    at AFile file_kinds.Special = refl
    at Either file_kinds.Normal = refl
    at Either file_kinds.Special = refl

module _ (s : State) (who : ℕ) (wants : Wanted) (way : Way) where
  abbrev refusal : Option Reply
  refusal = first_of (on_the_way s who wants way)

  pub no_name : named s who way.to ≡ None → refusal ≡ Some replies.NoGrant
  no_name is = rw (at way.to is) refl
    where
      at : (to : Ref) → named s who to ≡ None → has_no_such_grant s who to ≡ true
      at (Direct id) none = cc
      at (Through t) none = through (grant_of s who t) none
        where
          through : (o : Option Grant) → option_and_then (λ (g : Grant). Some g.id) o ≡ None → is_none o ≡ true
          through None h = refl
          through (Some g) h = cc

  module _ (state : IsState s) (id : Puid) (name : Some id ≡ named s who way.to) where
    granted : (to : Ref) → Some id ≡ named s who to → has_no_such_grant s who to ≡ false
    granted (Direct x) is = refl
    granted (Through t) is = through (grant_of s who t) is
      where
        through : (o : Option Grant) → Some id ≡ option_and_then (λ (g : Grant). Some g.id) o → is_none o ≡ false
        through None h = cc
        through (Some g) h = refl

    named_object : object_of s who way.to ≡ object_at s.graph id
    named_object = ap (option_and_then (object_at s.graph)) (sym name)

    pub lacking : is_gone s way.also ≡ true → refusal ≡ Some replies.NoObject
    lacking is = rw (granted way.to name, is, or_true (goes_nowhere s way.to)) refl
      where
        or_true : (b : Bool) → (b || true) ≡ true
        or_true true = refl
        or_true false = refl

    -- it names nothing that is there; that is no grant
    nowhere : (to : Ref) → Some id ≡ named s who to → object_at s.graph id ≡ None → goes_nowhere s to ≡ true
    nowhere (Direct x) is none = let same : id ≡ x = cc in ap (λ y. not (is_some (object_at s.graph y))) (sym same) ∙ ap (λ o. not (is_some o)) none
    nowhere (Through t) is none = through (grant_of s who t) refl is
      where
        through : (o : Option Grant) → grant_of s who t ≡ o → Some id ≡ option_and_then (λ (g : Grant). Some g.id) o → goes_nowhere s (Through t) ≡ true
        through None found h = cc
        through (Some g) found h =
            let same : id ≡ g.id = cc in
            let there = open_there (object_at s.graph g.id) g.draft (grant_found s who t g state found).1 in
            let no : None ≡ Some there.0 = sym none ∙ ap (object_at s.graph) same ∙ there.1 in cc

    somewhere : (o : Object) (to : Ref) → Some id ≡ named s who to → object_at s.graph id ≡ Some o → goes_nowhere s to ≡ false
    somewhere o (Direct x) is there = let same : id ≡ x = cc in ap (λ y. not (is_some (object_at s.graph y))) (sym same) ∙ ap (λ o. not (is_some o)) there
    somewhere o (Through t) is there = refl

    module _ (also : is_gone s way.also ≡ false) where
      pub unfit_on_way : (reply : Reply) → unfit_of wants (option_map object_kind (object_at s.graph id)) ≡ Some reply → refusal ≡ Some reply
      unfit_on_way reply is = at (object_at s.graph id) refl is
        where
          at : (o : Option Object) → object_at s.graph id ≡ o → unfit_of wants (option_map object_kind o) ≡ Some reply → refusal ≡ Some reply
          at None there h = rw (granted way.to name, nowhere way.to name there) h
          at (Some o) there h = rw (granted way.to name, somewhere o way.to name there, also, named_object, there)
              (first_held ((is_unwanted_file wants (Some o), replies.NotIndex) ∷ (is_unwanted_index wants (Some o), replies.NotFile) ∷ [])
              ((way.changes && goes_through_reading s who way.to, replies.ReadOnly) ∷ (meets_a_grant s way.changes way.to, replies.Locked) ∷ []) reply (kind_tells wants o ∙ h))

      module _ (o : Object) (there : object_at s.graph id ≡ Some o) (fit : unfit_of wants (Some (object_kind o)) ≡ None) where
        -- then the last two conditions are left
        left : refusal ≡ first_of ((way.changes && goes_through_reading s who way.to, replies.ReadOnly) ∷ (meets_a_grant s way.changes way.to, replies.Locked) ∷ [])
        left = rw (granted way.to name, somewhere o way.to name there, also, named_object, there)
            (first_later ((is_unwanted_file wants (Some o), replies.NotIndex) ∷ (is_unwanted_index wants (Some o), replies.NotFile) ∷ [])
            ((way.changes && goes_through_reading s who way.to, replies.ReadOnly) ∷ (meets_a_grant s way.changes way.to, replies.Locked) ∷ []) (kind_tells wants o ∙ fit))

        pub read_only : (way.changes && goes_through_reading s who way.to) ≡ true → refusal ≡ Some replies.ReadOnly
        read_only both = left ∙ rw both refl

        module _ (writes : (way.changes && goes_through_reading s who way.to) ≡ false) where
          pub locked : meets_a_grant s way.changes way.to ≡ true → refusal ≡ Some replies.Locked
          locked met = left ∙ rw (writes, met) refl

          pub arrives : meets_a_grant s way.changes way.to ≡ false → (request : Request) → GoesBy request wants way → Arrives s who request id o
          arrives met request by = record {
            there = there;
            name = ap (named s who) by.to ∙ sym name;
            rest = open_way s who request wants way by (left ∙ rw (writes, met) refl);
          }

-- ---- an object that is reached, without a draft

-- a draft is of its object's kind
pub draft_kind : (o d : Object) → is_draft_of o d ≡ true → object_kind d ≡ object_kind o
draft_kind (objects.File f) (objects.File e) is = at e.kind f.kind (and_parts (same_kind e.kind f.kind) _ (and_parts _ _ is).0).0
  where
    at : (a b : FileKind) → same_kind a b ≡ true → object_kind (objects.File (record e { kind = a })) ≡ object_kind (objects.File (record f { kind = b }))
    at file_kinds.Normal file_kinds.Normal same = refl
    at file_kinds.Normal file_kinds.Special same = cc
    at file_kinds.Special file_kinds.Normal same = cc
    at file_kinds.Special file_kinds.Special same = refl
draft_kind (objects.File f) (objects.Index i) is = cc
draft_kind (objects.Index i) (objects.Index d) is = refl
draft_kind (objects.Index i) (objects.File f) is = cc

-- what is wanted has no draft through a reference that has none of what is wanted
pub bare_of : (s : State) (who : ℕ) (wants : Wanted) (ref : Ref) (id : Puid) (o : Object) → IsState s → named s who ref ≡ Some id → object_at s.graph id ≡ Some o → unfit_of wants (Some (object_kind o)) ≡ None
    → HasNoneOf wants (draft_of s who ref) → draft_of s who ref ≡ None
bare_of s who wants (Direct x) id o state name there fit none = refl
bare_of s who wants (Through t) id o state name there fit none = at (grant_of s who t) refl name none
  where
    by : (d : Option Draft) → is_open_so (Some o) d ≡ true → HasNoneOf wants d → d ≡ None
    by None so h = refl
    by (Some d) so h = absurd (h (ap (λ k. unfit_of wants (Some k)) (draft_kind o d.object so) ∙ fit))

    at : (x : Option Grant) → grant_of s who t ≡ x → option_and_then (λ (g : Grant). Some g.id) x ≡ Some id → HasNoneOf wants (option_and_then (λ (g : Grant). g.draft) x) → option_and_then (λ (g : Grant). g.draft) x ≡ None
    at None found is h = refl
    at (Some g) found is h =
        let same : g.id ≡ id = cc in
        by g.draft (subst (λ p. is_open_so p g.draft ≡ true) (ap (object_at s.graph) same ∙ there) (grant_found s who t g state found).1) h

pub reaches : (s : State) (who : ℕ) (request : Request) (id : Puid) (o : Object) → Arrives s who request id o → draft_of s who (target request) ≡ None → Reaches s who request id o
reaches s who request id o arrives bare = record { there = arrives.there; name = arrives.name; bare = bare; rest = arrives.rest }
