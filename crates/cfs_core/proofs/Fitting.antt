-- A grant with a draft of what is wanted, as the core knows it, whatever is left of a commit.
use Rattle.std.proofs.Common.{◌≡◌, ℕ, inl, inr, length, false, Option, Some, None, Err, IsTrue, refl, sym, ◌∙◌, ap, subst, option_map, IsSome}
use Rattle.std.proofs.lemmas.Option.{same_Some}
use Rattle.cfs_core.proofs.Words.{draft_of, Drafting, Ghosts, Grant, grant_of, has_met_damage, Image, Kind, object_at, object_kind, OnlyReads, Refused, Request, State, Tuid, Wanted, Through}
use Rattle.open_table.specs.Grants as tables
use Rattle.cyl_alloc.specs.Left.{LeftCommit}
use Rattle.open_table.specs.declared.grant.OpenGrant as handles
use Rattle.puid_space.specs.Directory.{directory_kind}
use Rattle.special_files.proofs.Refusals.{damage_as}
use Rattle.special_files.specs.Committing.{FarRoots, draft_top}
use Rattle.special_files.specs.Refusal.{top_of}
use Rattle.special_files.specs.View.{DraftSeen}
use Rattle.cfs_core.specs.Calls.{Tries}
use Rattle.cfs_core.specs.Drafts.{HasGrant, HasNoneOf, IsDrafted}
use Rattle.cfs_core.specs.Handles.{drafting_at}
use Rattle.cfs_core.specs.Kernel.{Kernel, grants_in}
use Rattle.cfs_core.specs.Looks.{IsDraftCause}
use Rattle.cfs_core.specs.StandsFor.{ServesWith}
use Rattle.cfs_core.specs.Ways.{unfit_of}
use Rattle.cfs_core.proofs.Answering.{tries_failing}
use Rattle.cfs_core.proofs.Damages.{told_of_draft}
use Rattle.cfs_core.proofs.Ways.{draft_kind}
use Rattle.cfs_core.proofs.Serving.{kind_there}
use Rattle.cfs_core.proofs.Views.{FindsGrant, IsHeld, draft_seen, has_it, held_in, so, the_same}

module _ {D : Type 0} {w : Option LeftCommit} (g : Ghosts D) (who : ℕ) (t : Tuid) (law : FindsGrant who t) (k : Kernel D) (was : Drafting) (s : State) (serves : ServesWith g k s w) (held : IsHeld g k s who t was)
    (grant : handles.OpenGrant) (found : tables.session_grant (grants_in k.handles) who t ≡ Some grant) where
  -- the kind of its object is listed
  listed : directory_kind k.directory.named grant.id ≡ Some (object_kind held.object)
  listed =
      let y = the_same (tables.session_grant (grants_in k.handles) who t) (grant_of s who t) grant found (ap (λ gs. tables.session_grant gs who t) serves.front.grants ∙ law s) in
      let same : y.0 ≡ held.x = same_Some y.0 held.x (sym y.1 ∙ held.found) in
      let at : object_at s.graph grant.id ≡ Some held.object = ap (object_at s.graph) (sym y.2 ∙ ap (λ (z : Grant). z.id) same) ∙ held.there_x in
      kind_there g k s serves grant.id ∙ ap (option_map object_kind) at

  -- a draft of what isn't wanted
  pub unfitted : (wants : Wanted) → ¬ (unfit_of wants (directory_kind k.directory.named grant.id) ≡ None) → HasNoneOf wants (draft_of s who (Through t))
  unfitted wants unfit =
      let alike : object_kind held.before.object ≡ object_kind held.object = draft_kind held.object held.before.object (so g k s serves who t was held) in
      subst (HasNoneOf wants) (sym (has_it held)) (λ fits. unfit (ap (unfit_of wants) (listed ∙ ap (λ (n : Kind). Some n) (sym alike)) ∙ fits))

pub has_grant : {D : Type 0} {k : Kernel D} {wants : Wanted} {who : ℕ} {t : Tuid} → IsDrafted k wants who t → FindsGrant who t → HasGrant k who t
has_grant drafted law = record { found = subst (λ o. IsSome o) (sym drafted.found) refl; law = law }

-- with the draft that the core holds for it
abbrev pub drafted_as : {D : Type 0} {k : Kernel D} {wants : Wanted} {who : ℕ} {t : Tuid} → IsDrafted k wants who t → (d : Drafting) → drafting_at k.handles t.draw ≡ Some d → IsDrafted k wants who t
drafted_as drafted d has = record { grant = drafted.grant; found = drafted.found; drafting = d; has = has; fit = drafted.fit }

module _ {D : Type 0} {w : Option LeftCommit} {wants : Wanted} (g : Ghosts D) (who : ℕ) (t : Tuid) (law : FindsGrant who t) (k : Kernel D) (drafted : IsDrafted k wants who t) (s : State) (serves : ServesWith g k s w) where
  pub held : IsHeld g k s who t drafted.drafting
  held = held_in g k who t drafted.drafting drafted.has (subst (λ o. IsSome o) (sym drafted.found) refl) law s serves

  pub fit_there : unfit_of wants (Some (object_kind held.object)) ≡ None
  fit_there = ap (unfit_of wants) (sym (listed g who t law k drafted.drafting s serves held drafted.grant drafted.found)) ∙ drafted.fit

-- it couldn't be read
pub tries_unseen : {D : Type 0} {wants : Wanted} (g : Ghosts D) (left_sized : (d : D) (t : ℕ) (c : Image) → g.left_since d t c → length c ≡ g.blocks d) (sized : (d : D) → IsTrue (g.honest d) → length (g.content d) ≡ g.blocks d)
    (who : ℕ) (t : Tuid) → FindsGrant who t → (k : Kernel D) (drafted : IsDrafted k wants who t) (n : ℕ) (d : D) → OnlyReads g n k.disk d → (request : Request) (e : Refused) → (DraftSeen g k.disk drafted.drafting → has_met_damage e ≡ false) → IsDraftCause g (top_of drafted.drafting) k.disk d e
    → Tries g k (record k { disk = d }) who request (Err e)
tries_unseen g left_sized sized who t law k drafted n d reads request e sound cause =
    let was = drafted.drafting in
    tries_failing g left_sized sized n k (record k { disk = d }) reads refl _ e cause who request (λ s serves. sound (draft_seen g k s serves who t was (held g who t law k drafted s serves)))
    (λ damage why. told_of_draft g k (record k { disk = d }) (Some request) was.at (inr (inl (t.draw, was, drafted.has, refl))) damage reads.same.size t.draw was drafted.has refl (damage_as g (top_of was) (draft_top was) refl k.disk d k.space (λ far. FarRoots (inr far)) damage (why k.space)))
