-- What the steps of the marking keep.
use Rattle.std.proofs.Common.{◌≡◌, ◌+◌, ◌*◌, ◌/◌, ◌<◌, ◌≤◌, arith, inl, ℕ, List, ◌∷◌, refl, sym, ap, ◌∙◌, subst, Option, Some, None}
use Rattle.collector_steps.proofs.Words.{IsDirectoryOf, Collecting, Collects, Colours, FileKind, Graph, Grey, Image, Index, IsCollecting, IsGrey, IsMarking, IsPaced, IsState, AreStepsWithin, Kind, NoInner, Object, Phase, Puid, Rescue, Root, State, colours_in, count_after, first_grey, first_is, first_marked, index_there, directory_kind, object_kind, kinds_of, object_at, option_map, pace_ended, pace_scan, pace_take, rescued, scan_keeps, scan_is, scanned, take_keeps, volume_of, waiting_in, well}
use Rattle.cfs_base.specs.declared.kind.FileKind.TheVariants as file_kinds
use Rattle.marking.specs.Leaves as leaves
use Rattle.marking.specs.Steps.{IsDraftIndex}
use Rattle.collector_steps.specs.Scan.{IsDraftRoot}
use Rattle.std.proofs.lemmas.Bool.{lt-ltb}
use Rattle.marking.specs.Colours.{cursor_of, draft_over, with_cursor}
use Rattle.marking.specs.Leaves.{own_part}
use Rattle.marking.proofs.Ended.{ended_keeps}
use Rattle.ufs_model.specs.State.{draft_at}
use Rattle.ufs_model.specs.declared.object.Object.TheVariants as objects
use Rattle.collector_steps.specs.declared.phase.Phase.TheVariants as phases

-- ---- the directory

same_kind : (o : Option Object) → option_map object_kind o ≡ leaves.kind_standing o
same_kind None = refl
same_kind (Some (objects.Index i)) = refl
same_kind (Some (objects.File f)) = at f.kind
  where
    at : (k : FileKind) → option_map object_kind (Some (objects.File (record f { kind = k }))) ≡ leaves.kind_standing (Some (objects.File (record f { kind = k })))
    at file_kinds.Normal = refl
    at file_kinds.Special = refl

pub is_directory_of : ((g : Graph) (id : Puid) → directory_kind (kinds_of g) id ≡ option_map object_kind (object_at g id)) → (directory : List (Puid × Kind)) (g : Graph) → directory ≡ kinds_of g → IsDirectoryOf directory g
is_directory_of law directory g is id = ap (λ (ns : List (Puid × Kind)). directory_kind ns id) is ∙ law g id ∙ same_kind (object_at g id)

-- ---- the phases

abbrev pub InMarking : State → Collecting → Type 0
InMarking s k = IsMarking s (colours_in k) (waiting_in k) × IsPaced s (colours_in k) (waiting_in k) (volume_of k) k.steps k.added

pub of_marking : (image : Image) (s : State) (k : Collecting) → k.phase ≡ phases.Marking → Collects image s k → InMarking s k
of_marking image s k is h = subst (λ (p : Phase). IsCollecting p image s k) is h

pub to_marking : (image : Image) (s : State) (k : Collecting) → k.phase ≡ phases.Marking → InMarking s k → Collects image s k
to_marking image s k is h = subst (λ (p : Phase). IsCollecting p image s k) (sym is) h

-- told by its parts
pub by_parts : (s : State) (c d : Colours) (ws vs : List Rescue) (volume blocks steps made added more : ℕ) → c ≡ d → ws ≡ vs → volume ≡ blocks → steps ≡ made → added ≡ more
    → IsMarking s d vs × IsPaced s d vs blocks made more → IsMarking s c ws × IsPaced s c ws volume steps added
by_parts s c d ws vs volume blocks steps made added more colours waits size same counted is =
    subst (λ (e : Colours). IsMarking s e ws × IsPaced s e ws volume steps added) (sym colours)
    (subst (λ (us : List Rescue). IsMarking s d us × IsPaced s d us volume steps added) (sym waits)
    (subst (λ (n : ℕ). IsMarking s d vs × IsPaced s d vs n steps added) (sym size)
    (subst (λ (n : ℕ). IsMarking s d vs × IsPaced s d vs blocks n added) (sym same)
    (subst (λ (n : ℕ). IsMarking s d vs × IsPaced s d vs blocks made n) (sym counted) is))))

pub as_marking : (image : Image) (s : State) (k : Collecting) (c : Colours) (waiting : List Rescue) (volume steps added : ℕ) → k.phase ≡ phases.Marking → colours_in k ≡ c → waiting_in k ≡ waiting
    → volume_of k ≡ volume → k.steps ≡ steps → k.added ≡ added → IsMarking s c waiting × IsPaced s c waiting volume steps added → Collects image s k
as_marking image s k c waiting volume steps added phase colours waits size same counted is =
    to_marking image s k phase (by_parts s (colours_in k) c (waiting_in k) waiting (volume_of k) volume k.steps steps k.added added colours waits size same counted is)

-- ---- a scan, a rescue taken, and a draft that ends

-- the first grey index is one
pub grey_index : (s : State) (c : Colours) (waiting : List Rescue) (e : Grey) → IsMarking s c waiting → first_grey c ≡ Some e → (i : Index) × (object_at s.graph e.id ≡ Some (objects.Index i))
grey_index s c waiting e is first =
    let grey = first_is c e first in
    index_there (object_at s.graph e.id) (is.coloured.grey e.id (subst (λ (es : List Grey). IsGrey es e.id) (sym grey.1) (inl refl))).1

module _ (s : State) (state : IsState s) (directory : List (Puid × Kind)) (are : IsDirectoryOf directory s.graph) where
  pub scan_kept : (c : Colours) (waiting : List Rescue) (volume steps added : ℕ) (e : Grey) (i : Index) (d : Option Index) → first_grey c ≡ Some e → object_at s.graph e.id ≡ Some (objects.Index i)
      → IsDraftIndex (draft_at s.grants e.id) d → IsMarking s c waiting → IsPaced s c waiting volume steps added
      → IsMarking s (scanned directory d i e.cursor c) waiting × IsPaced s (scanned directory d i e.cursor c) waiting volume (count_after steps) added
  scan_kept c waiting volume steps added e i d first at is_draft is pace = (
    scan_keeps s (well s state) directory are waiting c e i d first at is_draft is,
    pace_scan s c (scanned directory d i e.cursor c) waiting volume steps added
        (scan_is s c e i d directory first is.coloured.once (first_marked s c waiting e first is.coloured) at is_draft) pace,
  )

  pub take_kept : (c : Colours) (volume steps added : ℕ) (r : Rescue) (rest : List Rescue) → IsMarking s c (r ∷ rest) → IsPaced s c (r ∷ rest) volume steps added
      → IsMarking s (rescued directory r c) rest × IsPaced s (rescued directory r c) rest volume (count_after steps) added
  take_kept c volume steps added r rest is pace = (take_keeps s (well s state) directory are r rest c is, pace_take s c directory r rest volume steps added pace)

-- the draft of the root that is read is the state's
pub draft_there : (image : Image) (s : State) (id : Puid) (root : Option Root) (d : Option Index) → IsDraftRoot image s id root d → IsDraftIndex (draft_at s.grants id) d
draft_there image s id None None is = is
draft_there image s id None (Some d) is = absurd is
draft_there image s id (Some root) None is = absurd is
draft_there image s id (Some root) (Some d) is = is.0

-- a draft ended: where it was read, its cursor moves
pub ended_is : (i : Puid) (c : Colours) (cursor : ℕ) → cursor_of c.grey i ≡ Some cursor → cursor < own_part → with_cursor i own_part c ≡ draft_over i c
ended_is i c cursor is less = rw (is, lt-ltb cursor own_part less) refl

-- nothing else is other than it was
module _ (image : Image) (s : State) (k l : Collecting) (i : Puid) (none : draft_at s.grants i ≡ None) (colours : colours_in l ≡ draft_over i (colours_in k)) (waits : waiting_in l ≡ waiting_in k)
    (phase : l.phase ≡ k.phase) (volume : volume_of l ≡ volume_of k) (steps : l.steps ≡ k.steps) (added : l.added ≡ k.added) where
  still_within : (more now : ℕ) → more ≤ now → AreStepsWithin k more → AreStepsWithin l now
  still_within more now le is less = let before = is (omega (arith, less, added)) in omega (arith, before, steps, added, volume, le)

  pub ended_kept : Collects image s k → Collects image s l
  ended_kept h = at k.phase refl h
    where
      by_phase : (p : Phase) → k.phase ≡ p → IsCollecting p image s l → Collects image s l
      by_phase p is = subst (λ (q : Phase). IsCollecting q image s l) (sym (phase ∙ is))

      at : (p : Phase) → k.phase ≡ p → IsCollecting p image s k → Collects image s l
      at phases.Idle is h = by_phase phases.Idle is tt
      at phases.Marking is h =
          as_marking image s l (draft_over i (colours_in k)) (waiting_in k) (volume_of k) k.steps k.added (phase ∙ is) colours waits volume steps added
          (ended_keeps i s (colours_in k) (waiting_in k) none h.0, pace_ended s (colours_in k) i (waiting_in k) (volume_of k) k.steps k.added h.1)
      at (phases.Inner c) is h = by_phase (phases.Inner c) is (h.0, still_within (2 + c) (2 + c) (omega arith) h.1)
      at (phases.Roots c) is h = by_phase (phases.Roots c) is (
        subst (λ (n : ℕ). NoInner image s.graph (n / 64)) (sym volume) h.0,
        (h.1.0, still_within (2 + volume_of k / 64 + c) (2 + volume_of l / 64 + c) (omega (arith, volume)) h.1.1),
      )
      at phases.Swept is h = by_phase phases.Swept is (h.0, still_within (2 + 2 * (volume_of k / 64)) (2 + 2 * (volume_of l / 64)) (omega (arith, volume)) h.1)
