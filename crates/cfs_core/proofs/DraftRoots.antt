-- The draft that the core finds for an object is that of the state, and has its tree.
use Rattle.std.proofs.Common.{◌≡◌, List, [], ◌∷◌, length, Bool, true, false, cond, ◌&&◌, Option, Some, None, refl, sym, ◌∙◌, ap, subst, map, is_some, option_map}
use Rattle.cfs_core.proofs.Words.{Draft, Drafting, Ghosts, Grant, HasDraft, Index, Object, Opened, Puid, State, and_parts, is_draft_of, is_grant_in, is_open_so, IsTree, list_all, object_at, opened_as, same_puid, same_puid_is, Drafts, HasDraftIf}
use Rattle.block_tree.specs.declared.root.Root.{Root}
use Rattle.block_tree.specs.Root.{root_spelling}
use Rattle.collector_steps.specs.Scan.{IsDraftRoot}
use Rattle.open_table.specs.declared.grant.OpenGrant as handles
use Rattle.ufs_model.specs.declared.object.Object.TheVariants as objects
use Rattle.ufs_model.specs.State.{draft_at, object_in}
use Rattle.vol_image.specs.Seen.{tree_in}
use Rattle.cfs_core.specs.Kernel.{Kernel, Handle}
use Rattle.cfs_core.specs.Handles.{root_at}
use Rattle.cfs_core.specs.StandsFor.{AreDraftsOf, HasDraftOf, IsDraftOf, CoreServes, bare, drafts_of_handles}

-- the draft of this object, as the store accounts for it, has this root and gives this one
pub record IsOpenedCore (ds : Drafts) (id : Puid) (own : Object) (root : Root) (o : Object) : Type 0 where
  pub opened : Opened
  pub only : ds id ≡ Some opened
  pub root_is : opened.root ≡ root
  pub object_is : opened.draft.object ≡ o
  pub of_own : is_draft_of own o ≡ true

-- there is one, or the state has none
abbrev pub Opens : Drafts → Puid → Object → Option Root → Option Object → Type 0
Opens ds id own None None = Unit {0}
Opens ds id own (Some root) (Some o) = IsOpenedCore ds id own root o
Opens ds id own (Some root) None = ⊥
Opens ds id own None (Some o) = ⊥

module _ (s : State) (ds : Drafts) (id : Puid) (own : Object) (at : object_at s.graph id ≡ Some own) where
  one : (grant : handles.OpenGrant) (drafting : Drafting) (d : Draft) → grant.id ≡ id → IsDraftOf ds grant drafting d → is_open_so (object_at s.graph id) (Some d) ≡ true → IsOpenedCore ds id own drafting.root d.object
  one grant drafting d same is so = record {
    opened = opened_as drafting d;
    only = subst (λ (k : Puid). ds k ≡ Some (opened_as drafting d)) same is.is_open.alone;
    root_is = refl;
    object_is = refl;
    of_own = ap (λ (o : Option Object). is_open_so o (Some d)) (sym at) ∙ so;
  }

  opens : (xs : List Handle) (grants : List Grant) → map (λ (x : Handle). x.grant) xs ≡ map bare grants → AreDraftsOf ds xs grants → list_all (is_grant_in s.graph) grants ≡ true → Opens ds id own (root_at xs id) (draft_at grants id)
  opens [] [] are drafts all = tt
  opens [] (y ∷ grants) are drafts all = absurd drafts
  opens (x ∷ xs) [] are drafts all = absurd drafts
  opens (x ∷ xs) (y ∷ grants) are drafts all =
      let here : x.grant ≡ bare y = cc in
      let rest : map (λ (z : Handle). z.grant) xs ≡ map bare grants = cc in
      let two = and_parts (is_grant_in s.graph y) (list_all (is_grant_in s.graph) grants) all in
      let ids : x.grant.id ≡ y.id = ap (λ (z : handles.OpenGrant). z.id) here in
      step (same_puid id x.grant.id) refl (ap (same_puid id) (sym ids)) ids x.drafting y.draft drafts.0 two.0 (opens xs grants rest drafts.1 two.1)
    where
      step : (b : Bool) → same_puid id x.grant.id ≡ b → same_puid id y.id ≡ same_puid id x.grant.id → x.grant.id ≡ y.id → (o : Option Drafting) (p : Option Draft) → HasDraftOf ds x o p → is_open_so (object_at s.graph y.id) p ≡ true
          → Opens ds id own (root_at xs id) (draft_at grants id)
          → Opens ds id own (cond (same_puid id x.grant.id && is_some o) (option_map (λ (d : Drafting). d.root) o) (root_at xs id)) (cond (same_puid id y.id && is_some p) (object_in p) (draft_at grants id))
      step false is too ids o p has so later = rw (too, is) later
      step true is too ids None None has so later = rw (too, is) later
      step true is too ids (Some drafting) (Some d) has so later =
          let same : x.grant.id ≡ id = sym (same_puid_is id x.grant.id is) in
          rw (too, is) (one x.grant drafting d same has (subst (λ (k : Puid). is_open_so (object_at s.graph k) (Some d) ≡ true) (sym ids ∙ same) so))
      step true is too ids None (Some d) has so later = absurd has
      step true is too ids (Some drafting) None has so later = absurd has

-- ---- of a core that serves

module _ {D : Type 0} (g : Ghosts D) (k : Kernel D) (s : State) (serves : CoreServes g k s) (id : Puid) (own : Object) (at : object_at s.graph id ≡ Some own) where
  abbrev drafts : Drafts
  drafts = drafts_of_handles k.handles s.grants

  pub opens_here : Opens drafts id own (root_at k.handles id) (draft_at s.grants id)
  opens_here = opens s drafts id own at k.handles s.grants serves.front.grants serves.drafts serves.state.grants

  pub its_tree : (root : Root) (o : Object) (is : IsOpenedCore drafts id own root o) → HasDraft (g.content k.disk) id is.opened
  its_tree root o is = subst (HasDraftIf (g.content k.disk) id) is.only (serves.store.account.drafts id own at)

-- the root of an index's draft
pub draft_root : {D : Type 0} (g : Ghosts D) (k : Kernel D) (s : State) → CoreServes g k s → (id : Puid) (i : Index) → object_at s.graph id ≡ Some (objects.Index i) → (d : Option Index) × IsDraftRoot (g.content k.disk) s id (root_at k.handles id) d
draft_root g k s serves id i at = by (root_at k.handles id) (draft_at s.grants id) refl (opens_here g k s serves id (objects.Index i) at)
  where
    index_of : (o : Object) → is_draft_of (objects.Index i) o ≡ true → (d : Index) × (o ≡ objects.Index d)
    index_of (objects.File f) h = cc
    index_of (objects.Index d) h = (d, refl)

    tree_of_draft : (root : Root) (o : Object) → IsOpenedCore (drafts_of_handles k.handles s.grants) id (objects.Index i) root o → IsTree (length (g.content k.disk)) id.block (tree_in (g.content k.disk) (root_spelling root)) root o
    tree_of_draft root o is =
        let tree = (its_tree g k s serves id (objects.Index i) at root o is).tree in
        subst (λ (x : Object). IsTree (length (g.content k.disk)) id.block (tree_in (g.content k.disk) (root_spelling root)) root x) is.object_is
        (subst (λ (r : Root). IsTree (length (g.content k.disk)) id.block (tree_in (g.content k.disk) (root_spelling r)) r is.opened.draft.object) is.root_is tree)

    by : (r : Option Root) (o : Option Object) → draft_at s.grants id ≡ o → Opens (drafts_of_handles k.handles s.grants) id (objects.Index i) r o → (d : Option Index) × IsDraftRoot (g.content k.disk) s id r d
    by None None is opened = (None, is)
    by (Some root) (Some o) is opened =
        let d = index_of o opened.of_own in
        (Some d.0, (is ∙ ap (λ (x : Object). Some x) d.1, subst (λ (x : Object). IsTree (length (g.content k.disk)) id.block (tree_in (g.content k.disk) (root_spelling root)) root x) d.1 (tree_of_draft root o opened)))
    by (Some root) None is opened = absurd opened
    by None (Some o) is opened = absurd opened
