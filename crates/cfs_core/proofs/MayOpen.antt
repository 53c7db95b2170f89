-- Which opening gets a draft, why one is refused, and a draft that was begun.
use Rattle.std.proofs.Common.{◌≡◌, ℕ, ◌<◌, List, [], length, Bool, true, false, get_or, Option, Some, None, Err, refl, sym, ◌∙◌, ap, arith, IfSome, is_some, nat_le, sum}
use Rattle.cfs_core.proofs.Words.{AcquireFault, begun_at, begun_fresh, Drafting, FileKind, fresh_of, Ghosts, has_all_grants, Holds, has_met_damage, is_locked, is_normal, is_reading, is_there, IsOpen, with_here}
use Rattle.cfs_core.proofs.Words.{IsPlainReply, Kept, Kind, directory_kind, object_kind, Leaves, length-none, Mode, MOST_GRANTS, Object, object_at, opened_as, Puid, Reading, refusal_of, Refused, State, takes_draft, Tuid, fault_of, grants_of, mode_against, table_of, Writing}
use Rattle.block_tree.specs.Pointers.{leaf_limit, node_pointers}
use Rattle.cfs_base.specs.declared.kind.FileKind.TheVariants as file_kinds
use Rattle.cfs_base.specs.declared.refusal.Refused.TheVariants as refusals
use Rattle.open_table.specs.declared.fault.AcquireFault.TheVariants as faults
use Rattle.open_table.specs.declared.grant.OpenGrant as handles
use Rattle.ufs_model.specs.declared.asked.Reply.TheVariants as replies
use Rattle.ufs_model.specs.declared.asked.Request.TheVariants as asks
use Rattle.ufs_model.specs.declared.object.Object.TheVariants as objects
use Rattle.cfs_core.specs.Kernel.{Kernel, grants_in, is_ready}
use Rattle.cfs_core.specs.Opening.{BeginsSo, gets_draft, reply_to_fault}
use Rattle.cyl_alloc.specs.Left.{LeftCommit}
use Rattle.cfs_core.specs.StandsFor.{ServesWith}
use Rattle.cfs_core.proofs.Readied.{for_ready}
use Rattle.cfs_core.proofs.Granted.{locked_by, many_by, none_by}
use Rattle.cfs_core.proofs.Serving.{kind_is, object_listed}
use Rattle.special_files.specs.Begins.{BeginCall, drafts_begun, equal_to}
use Rattle.special_files.specs.View.{IsShut, ObjectView}

-- ---- by its kind

pub gets_is : (o : Object) (kind : Kind) → object_kind o ≡ kind → (mode : Mode) → takes_draft mode (Some o) ≡ gets_draft kind mode
gets_is (objects.Index i) kind is Reading = ap (λ k. gets_draft k Reading) is
gets_is (objects.Index i) kind is Writing = ap (λ k. gets_draft k Writing) is
gets_is (objects.File f) kind is mode = at f.kind mode ∙ ap (λ k. gets_draft k mode) is
  where
    at : (k : FileKind) (m : Mode) → takes_draft m (Some (objects.File (record f { kind = k }))) ≡ gets_draft (object_kind (objects.File (record f { kind = k }))) m
    at file_kinds.Normal Reading = refl
    at file_kinds.Normal Writing = refl
    at file_kinds.Special Reading = refl
    at file_kinds.Special Writing = refl

-- what gets a draft is a special file
pub special_of : (mode : Mode) (o : Object) → takes_draft mode (Some o) ≡ true → is_normal o ≡ false
special_of Reading o gets = cc
special_of Writing (objects.Index i) gets = cc
special_of Writing (objects.File f) gets = at f.kind gets
  where
    at : (k : FileKind) → takes_draft Writing (Some (objects.File (record f { kind = k }))) ≡ true → is_normal (objects.File (record f { kind = k })) ≡ false
    at file_kinds.Normal h = cc
    at file_kinds.Special h = refl

pub written_of : (mode : Mode) (o : Object) → takes_draft mode (Some o) ≡ true → is_reading mode ≡ false
written_of Reading o gets = cc
written_of Writing o gets = refl

-- ---- why it is refused

module _ (s : State) (who : ℕ) (id : Puid) where
  pub open_gone : (mode : Mode) → is_there s.graph id ≡ false → refusal_of s who (asks.OpenFor id mode) ≡ Some replies.NoObject
  open_gone mode gone = rw gone refl

  module _ (there : is_there s.graph id ≡ true) (mode : Mode) where
    pub open_locked : is_locked s who (asks.OpenFor id mode) ≡ true → refusal_of s who (asks.OpenFor id mode) ≡ Some replies.Locked
    open_locked locked = rw (there, locked) refl

    pub open_many : is_locked s who (asks.OpenFor id mode) ≡ false → has_all_grants s who (asks.OpenFor id mode) ≡ true → refusal_of s who (asks.OpenFor id mode) ≡ Some replies.Grants
    open_many free many = rw (there, free, many) refl

    pub open_goes : is_locked s who (asks.OpenFor id mode) ≡ false → has_all_grants s who (asks.OpenFor id mode) ≡ false → refusal_of s who (asks.OpenFor id mode) ≡ None
    open_goes free few = rw (there, free, few) refl

-- ---- as the core finds it

module _ {D : Type 0} {w : Option LeftCommit} (g : Ghosts D) (k : Kernel D) (s : State) (serves : ServesWith g k s w) (id : Puid) (kind : Kind) (listed : directory_kind k.directory.named id ≡ Some kind) where
  pub the_object : (o : Object) × (object_at s.graph id ≡ Some o)
  the_object = object_listed g k s serves id kind listed

  pub the_kind : object_kind the_object.0 ≡ kind
  the_kind = kind_is g k s serves id the_object.0 kind listed the_object.1

  pub there_now : is_there s.graph id ≡ true
  there_now = ap is_some the_object.1

  pub gets_now : (mode : Mode) → takes_draft mode (Some the_object.0) ≡ gets_draft kind mode
  gets_now mode = gets_is the_object.0 kind the_kind mode

pub told_plain : (fault : AcquireFault) → IsPlainReply (reply_to_fault fault)
told_plain (faults.Locked mode) = tt
told_plain faults.Grants = tt

-- of a table that is the core's
module _ {D : Type 0} {w : Option LeftCommit} (g : Ghosts D) (k : Kernel D) (s : State) (serves : ServesWith g k s w) (who : ℕ) (id : Puid) (mode : Mode) (kind : Kind) (listed : directory_kind k.directory.named id ≡ Some kind) (tuid : Tuid) (gs : List handles.OpenGrant) (same : gs ≡ grants_in k.handles) where
  abbrev to_open : handles.OpenGrant
  to_open = record { tuid = tuid; session = who; id = id; mode = mode }

  module _ (locks : is_some (mode_against (table_of s.grants) to_open) ≡ is_locked s who (asks.OpenFor id mode)) (fills : nat_le MOST_GRANTS (length (grants_of (table_of s.grants) who)) ≡ has_all_grants s who (asks.OpenFor id mode)) where
    abbrev m : Option Mode
    m = mode_against gs to_open

    abbrev count : ℕ
    count = length (grants_of gs who)

    there : is_there s.graph id ≡ true
    there = there_now g k s serves id kind listed

    lock : is_some m ≡ is_locked s who (asks.OpenFor id mode)
    lock = ap (λ xs. is_some (mode_against xs to_open)) (same ∙ serves.front.grants) ∙ locks

    many : nat_le MOST_GRANTS count ≡ has_all_grants s who (asks.OpenFor id mode)
    many = ap (λ xs. nat_le MOST_GRANTS (length (grants_of xs who))) (same ∙ serves.front.grants) ∙ fills

    pub fault_told : (fault : AcquireFault) → fault_of gs to_open ≡ Some fault → refusal_of s who (asks.OpenFor id mode) ≡ Some (reply_to_fault fault)
    fault_told (faults.Locked held) is = open_locked s who id there mode (sym lock ∙ locked_by m count (faults.Locked held) held is refl)
    fault_told faults.Grants is = (let two = many_by m count faults.Grants is refl in open_many s who id there mode (sym lock ∙ two.0) (sym many ∙ two.1))

    -- nothing does
    pub none_told : fault_of gs to_open ≡ None → (refusal_of s who (asks.OpenFor id mode) ≡ None) × (is_locked s who (asks.OpenFor id mode) ≡ false)
    none_told is = (let two = none_by m count is in (open_goes s who id there mode (sym lock ∙ two.0) (sym many ∙ two.1), sym lock ∙ two.0))

-- one that couldn't be begun
pub refusal_so : {D : Type 0} (g : Ghosts D) {at : ℕ} {old : D} {before : Kept} (v : ObjectView g old before at) (new : D) (after : Kept) (w : Bool) → w ≡ true → (e : Refused) → BeginCall g at 4 old new before after (Err e)
    → has_met_damage e ≡ false → Leaves g old new (λ c. Holds c v.graph) → BeginsSo v w new after (Err e)
refusal_so g {before = before} v new after w wants (refusals.Full need) call sound leaves = (let is = call.full refl in let same : need ≡ record { free = sum before.free; need = 1 } = (let both = is.0 in cc) in (wants, same, is.1, (call.untried refl).1, (call.untried refl).0))
refusal_so g v new after w wants (refusals.Disk true) call sound leaves = leaves
refusal_so g v new after w wants (refusals.Disk false) call sound leaves = ((call.untried refl).1, (call.untried refl).0)
refusal_so g v new after w wants (refusals.Damaged damage) call sound leaves = cc
refusal_so g v new after w wants refusals.Memory call sound leaves = ((call.untried refl).1, (call.untried refl).0)

-- a draft that was begun is among the drafts
pub begun_open : {D : Type 0} (g : Ghosts D) {at : ℕ} {old : D} {before : Kept} (v : ObjectView g old before at) (n : ℕ) (d : Drafting) → d ≡ begun_at at (Some n) d.own → IsShut v → IsOpen (drafts_begun v d) v.id d (equal_to v.object)
begun_open g {at = at} v n d is none = record {
  at = v.root ∙ sym (ap (λ (w : Drafting). w.at) is);
  alone = with_here v.id (Some (opened_as d (equal_to v.object))) v.ds;
  leaf_flags = ap (λ (w : Drafting). length w.leaves) is ∙ length-none leaf_limit;
  node_flags = ap (λ (w : Drafting). length w.nodes) is ∙ length-none node_pointers.count;
  fresh = λ level. begun_fresh at (Some n) d.own level ∙ ap (λ (w : Drafting). get_or (fresh_of w) level []) (sym is);
}

-- a draft that was begun is ready
pub begun_ready : (blocks : ℕ) (kind : Kind) (grant : handles.OpenGrant) (o : Option Drafting) → IfSome o (λ d. (gets_draft kind grant.mode ≡ true) × (d.at ≡ grant.id.block) × ((n : ℕ) × (d.shadow ≡ Some n)) × (d.created ≡ None)) → grant.id.block < blocks
    → is_ready blocks (record { grant = grant; drafting = o }) ≡ true
begun_ready blocks kind grant None is less = refl
begun_ready blocks kind grant (Some d) is less =
    for_ready blocks d (record { on_disk = omega (arith, is.1, less); shadow = is.2; bare = is.3 })
