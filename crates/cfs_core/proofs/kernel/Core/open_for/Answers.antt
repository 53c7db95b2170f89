use Rattle.std.proofs.Common.{◌≡◌, ◌≢◌, inl, inr, Bool, true, Option, Result, ◌+◌, ◌++◌, [], ◌∷◌, is_some, false, None, Some, Ok, Err, refl, sym, ◌∙◌, ap, subst, ◌<◌, ◌*◌, IsSome}
use Rattle.cfs_base.proofs.Went.{reads_none}
use Rattle.cfs_core.proofs.Words.{Drafting, Draws, fault_of, is_locked, directory_kind, list_all, refusal_of, Refused, Reply, State, Trouble, Tuid, word}
use Rattle.cfs_base.specs.declared.refusal.Refused.TheVariants as refusals
use Rattle.open_table.specs.declared.grant.OpenGrant.{OpenGrant}
use Rattle.ufs_model.specs.declared.asked.Reply.TheVariants as replies
use Rattle.ufs_model.specs.declared.asked.Request.TheVariants as asks
use Rattle.cfs_core.specs.Calls.{Tries}
use Rattle.cfs_core.specs.Kernel.{Kernel, grants_in, is_drawn_by, is_ready}
use Rattle.cfs_core.specs.Finished.{FinishesLeft}
use Rattle.cfs_core.specs.StandsFor.{CoreServes, ServesIs}
use Rattle.std.proofs.lemmas.Bool.{cases_Bool}
use Rattle.cfs_core.specs.Opening.{Begins, reply_to_fault}
use Rattle.cfs_core.proofs.Answering.{memory, tries_refusal, tries_so}
use Rattle.cfs_core.proofs.Granted.{drawn_push, not_drawn}
use Rattle.cfs_core.proofs.MayOpen.{begun_ready, fault_told, none_told, open_gone, told_plain}
use Rattle.cfs_core.proofs.Openings.{draft_changes, tries_bare, tries_not, tries_open}
use Rattle.cfs_core.proofs.Joined.{ok_is, since_err, since_ok, tries_since, tries_unfinished}
use Rattle.cfs_core.proofs.Readied.{all_push}
use Rattle.cfs_core.proofs.Serving.{there_is}
use Rattle.cfs_core.proofs.Words.{refused_by}
use Rattle.cfs_base.proofs.Passed.{is_passed}
use Rattle.cfs_core.proofs.kernel.Core.open_for.Goals as goal

-- only where a draft is wanted can it be refused
wanted_by : (wanted : Bool) (r : Result Bool Trouble) (why : Trouble) → r ≡ Err why → (wanted ≡ false → r ≡ Ok false) → wanted ≡ true
wanted_by true r why is idle = refl
wanted_by false r why is idle = let no = sym is ∙ idle refl in cc

drafted_by : (wanted : Bool) (r : Result (Option Drafting) Refused) (e : Refused) → r ≡ Err e → (wanted ≡ false → r ≡ Ok None) → wanted ≡ true
drafted_by true r e is bare = refl
drafted_by false r e is bare = let no = sym is ∙ bare refl in cc

err_never : (e : Refused) → e ≢ refusals.Memory → ◌≢◌ {A = Result Reply Refused} (Err e) (Err refusals.Memory)
err_never e never = λ is. never (let same : e ≡ refusals.Memory = cc in same)

pub returns-in_default : goal.returns-in_default
returns-in_default g c =
    tries_refusal g.D.Disk g.met.D.Disk.left_sized g.met.D.Disk.sized c.args.self.now c.args.who (asks.OpenFor c.args.id c.args.mode) replies.NoObject tt
    (λ s serves. open_gone s c.args.who c.args.id c.args.mode (there_is g.D.Disk c.args.self.now s serves c.args.id ∙ ap is_some (sym c.kind.ensures.kind ∙ c.in_default.is)))

pub returns-in_err-reserve : goal.returns-in_err-reserve
returns-in_err-reserve g c =
    let k : Kernel _ = record { disk = c.self.inside.disk; root = c.self.inside.root; directory = c.self.inside.directory; space = c.self.inside.space; words = c.self.inside.words; handles = c.self.inside.handles.handles; collections = c.self.inside.collections; stop = c.self.inside.stop } in
    let request = asks.OpenFor c.args.id c.args.mode in
    rw (is_passed _ _ c.from_residual.ensures.1) (subst (λ x. Tries g.D.Disk x (record k { handles = c.reserve.new.self.handles }) c.args.who request (Err refusals.Memory)) c.self.view_is
    (subst (λ ss. Tries g.D.Disk k (record k { handles = ss }) c.args.who request (Err refusals.Memory)) (sym c.reserve.ensures.handles)
    (tries_so g.D.Disk g.met.D.Disk.left_sized g.met.D.Disk.sized 0 k k (reads_none g.D.Disk 0 k.disk) refl c.args.who request (Err refusals.Memory)
    (λ s serves none. memory g.D.Disk g.met.D.Disk.left_sized g.met.D.Disk.sized 0 k k (reads_none g.D.Disk 0 k.disk) refl s c.args.who serves none request) tt tt)))

pub returns-in-Some-fault : goal.returns-in-Some-fault
returns-in-Some-fault g c =
    let k : Kernel _ = record { disk = c.self.inside.disk; root = c.self.inside.root; directory = c.self.inside.directory; space = c.self.inside.space; words = c.self.inside.words; handles = c.self.inside.handles.handles; collections = c.self.inside.collections; stop = c.self.inside.stop } in
    let request = asks.OpenFor c.args.id c.args.mode in
    let listed = ap (λ x. directory_kind x.directory.named c.args.id) c.self.view_is ∙ sym c.kind.ensures.kind ∙ c.in-Some.is in
    let gs = grants_in c.reserve.new.self.handles in
    let tuid : Tuid = record { draw = c.drawn.result + 1; word = c.ahead.result } in
    let grant : OpenGrant = (record { tuid = tuid; session = c.args.who; id = c.args.id; mode = c.args.mode }) in
    subst (λ r. Tries g.D.Disk c.args.self.now (record k { handles = c.reserve.new.self.handles }) c.args.who request (Ok r)) (sym c.reply_to_fault.ensures)
    (subst (λ x. Tries g.D.Disk x (record k { handles = c.reserve.new.self.handles }) c.args.who request (Ok (reply_to_fault c.in-Some-fault.fault))) c.self.view_is
    (subst (λ ss. Tries g.D.Disk k (record k { handles = ss }) c.args.who request (Ok (reply_to_fault c.in-Some-fault.fault))) (sym c.reserve.ensures.handles)
    (tries_refusal g.D.Disk g.met.D.Disk.left_sized g.met.D.Disk.sized k c.args.who request (reply_to_fault c.in-Some-fault.fault) (told_plain c.in-Some-fault.fault)
    (λ s serves. fault_told g.D.Disk k s serves c.args.who c.args.id c.args.mode c.in-Some.kind listed tuid gs (ap grants_in c.reserve.ensures.handles) (c.table_follows_the_model.ensures.locked s c.args.who grant) (c.table_follows_the_model.ensures.full s c.args.who c.args.id c.args.mode)
    c.in-Some-fault.fault (sym c.fault.ensures ∙ c.in-Some-fault.is)))))

pub open-requires-clause-new : goal.open-requires-clause-new
open-requires-clause-new g c = not_drawn c.reserve.new.self.handles c.self.inside.words.drawn (c.drawn.result + 1) (ap (λ n. n + 1) c.drawn.ensures)
    (ap (list_all (is_drawn_by c.self.inside.words.drawn)) c.reserve.ensures.handles ∙ c.self.invariant.drawn_all)

-- memory for a draft is wanted
pub returns-in_err-room : goal.returns-in_err-room
returns-in_err-room g c =
    let k : Kernel _ = record { disk = c.self.inside.disk; root = c.self.inside.root; directory = c.self.inside.directory; space = c.self.inside.space; words = c.self.inside.words; handles = c.self.inside.handles.handles; collections = c.self.inside.collections; stop = c.self.inside.stop } in
    let request = asks.OpenFor c.args.id c.args.mode in
    rw (is_passed _ _ c.from_residual-in_err-room.ensures.1) (subst (λ x. Tries g.D.Disk x (record k { handles = c.reserve.new.self.handles }) c.args.who request (Err c.in_err-room.field-0.0)) c.self.view_is
    (subst (λ e. Tries g.D.Disk k (record k { handles = c.reserve.new.self.handles }) c.args.who request (Err e)) (sym c.in_err-room.ensures.wants)
    (subst (λ ss. Tries g.D.Disk k (record k { handles = ss }) c.args.who request (Err refusals.Memory)) (sym c.reserve.ensures.handles)
    (tries_so g.D.Disk g.met.D.Disk.left_sized g.met.D.Disk.sized 0 k k (reads_none g.D.Disk 0 k.disk) refl c.args.who request (Err refusals.Memory)
    (λ s serves none. memory g.D.Disk g.met.D.Disk.left_sized g.met.D.Disk.sized 0 k k (reads_none g.D.Disk 0 k.disk) refl s c.args.who serves none request) tt tt))))

-- what was left couldn't be carried out
pub returns-in_err-tried : goal.returns-in_err-tried
returns-in_err-tried g c =
    let G = g.D.Disk in
    let k : Kernel _ = record { disk = c.self.inside.disk; root = c.self.inside.root; directory = c.self.inside.directory; space = c.self.inside.space; words = c.self.inside.words; handles = c.self.inside.handles.handles; collections = c.self.inside.collections; stop = c.self.inside.stop } in
    let request = asks.OpenFor c.args.id c.args.mode in
    let listed : directory_kind k.directory.named c.args.id ≡ Some c.in-Some.kind = ap (λ x. directory_kind x.directory.named c.args.id) c.self.view_is ∙ sym c.kind.ensures.kind ∙ c.in-Some.is in
    let gs = grants_in c.reserve.new.self.handles in
    let tuid : Tuid = record { draw = c.drawn.result + 1; word = c.ahead.result } in
    let grant : OpenGrant = (record { tuid = tuid; session = c.args.who; id = c.args.id; mode = c.args.mode }) in
    let tuid_is : tuid ≡ record { draw = k.words.drawn + 1; word = word k.words.seed (k.words.drawn + 1) } =
    ap (λ n. record { draw = n + 1; word = c.ahead.result }) c.drawn.ensures ∙ ap (λ w. record { draw = c.self.inside.words.drawn + 1; word = w }) c.ahead.ensures in
    let none : fault_of gs grant ≡ None = sym c.fault.ensures ∙ c.in_default-fault.is in
    let goes : (s : State) → ServesIs g.D.Disk k s → (refusal_of s c.args.who request ≡ None) × (is_locked s c.args.who request ≡ false) =
    λ s serves. none_told g.D.Disk k s serves c.args.who c.args.id c.args.mode c.in-Some.kind listed tuid gs (ap grants_in c.reserve.ensures.handles) (c.table_follows_the_model.ensures.locked s c.args.who grant) (c.table_follows_the_model.ensures.full s c.args.who c.args.id c.args.mode) none in
    let wants : c.gets_draft-wanted.result ≡ true = wanted_by c.gets_draft-wanted.result c.finish_if.result c.in_err-tried.field-0.0 c.in_err-tried.was (λ no. (c.finish_if.ensures.idle no).0) in
    let new : Kernel _ = record k { disk = c.finish_if.new.disk; space = c.finish_if.new.space } in
    rw (is_passed _ _ c.from_residual-in_err-tried.ensures.1) (subst (λ x. Tries G x (record new { handles = c.reserve.new.self.handles }) c.args.who request (Err (refused_by c.in_err-tried.field-0.0))) c.self.view_is
    (subst (λ ss. Tries G k (record new { handles = ss }) c.args.who request (Err (refused_by c.in_err-tried.field-0.0))) (sym c.reserve.ensures.handles)
    (tries_unfinished G g.met.D.Disk.left_sized g.met.D.Disk.sized k c.finish_if.new.disk c.finish_if.new.space c.in_err-tried.field-0.0 (subst (λ r. FinishesLeft G k.disk c.finish_if.new.disk k.space c.finish_if.new.space r) c.in_err-tried.was (c.finish_if.ensures.finished wants)) request c.args.who _ refl
    (draft_changes k c.args.id c.args.mode c.in-Some.kind listed (sym c.gets_draft-wanted.ensures ∙ wants)) (λ s serves. (goes s serves).0))))

-- it couldn't be begun
pub returns-in_err-draft : goal.returns-in_err-draft
returns-in_err-draft g c =
    let G = g.D.Disk in
    let k : Kernel _ = record { disk = c.self.inside.disk; root = c.self.inside.root; directory = c.self.inside.directory; space = c.self.inside.space; words = c.self.inside.words; handles = c.self.inside.handles.handles; collections = c.self.inside.collections; stop = c.self.inside.stop } in
    let why = since_err c.in_ok-tried.tried c.first_draft.result c.in_err-draft.field-0.0 (sym c.since.ensures ∙ c.in_err-draft.was) in
    let e = why.0 in
    let request = asks.OpenFor c.args.id c.args.mode in
    let listed : directory_kind k.directory.named c.args.id ≡ Some c.in-Some.kind = ap (λ x. directory_kind x.directory.named c.args.id) c.self.view_is ∙ sym c.kind.ensures.kind ∙ c.in-Some.is in
    let gs = grants_in c.reserve.new.self.handles in
    let tuid : Tuid = record { draw = c.drawn.result + 1; word = c.ahead.result } in
    let grant : OpenGrant = (record { tuid = tuid; session = c.args.who; id = c.args.id; mode = c.args.mode }) in
    let tuid_is : tuid ≡ record { draw = k.words.drawn + 1; word = word k.words.seed (k.words.drawn + 1) } =
    ap (λ n. record { draw = n + 1; word = c.ahead.result }) c.drawn.ensures ∙ ap (λ w. record { draw = c.self.inside.words.drawn + 1; word = w }) c.ahead.ensures in
    let none : fault_of gs grant ≡ None = sym c.fault.ensures ∙ c.in_default-fault.is in
    let mid : Kernel _ = record k { disk = c.finish_if.new.disk; space = c.finish_if.new.space } in
    let new : Kernel _ = record k { disk = c.first_draft.new.disk; space = c.first_draft.new.space } in
    let goes_on : (s : State) → ServesIs g.D.Disk k s → (refusal_of s c.args.who request ≡ None) × (is_locked s c.args.who request ≡ false) =
    λ s serves. none_told g.D.Disk k s serves c.args.who c.args.id c.args.mode c.in-Some.kind listed tuid gs (ap grants_in c.reserve.ensures.handles) (c.table_follows_the_model.ensures.locked s c.args.who grant) (c.table_follows_the_model.ensures.full s c.args.who c.args.id c.args.mode) none in
    let goes : (s : State) → CoreServes g.D.Disk mid s → (refusal_of s c.args.who request ≡ None) × (is_locked s c.args.who request ≡ false) =
    λ s serves. none_told g.D.Disk mid s serves c.args.who c.args.id c.args.mode c.in-Some.kind listed tuid gs (ap grants_in c.reserve.ensures.handles) (c.table_follows_the_model.ensures.locked s c.args.who grant) (c.table_follows_the_model.ensures.full s c.args.who c.args.id c.args.mode) none in
    let begins = subst (λ w. Begins G c.args.id.block w c.finish_if.new.disk c.first_draft.new.disk c.finish_if.new.space c.first_draft.new.space (Err e)) (c.in_ok-room.ensures.room ∙ c.gets_draft-wanted.ensures) (subst (λ r. Begins G c.args.id.block (is_some c.in_ok-room.room) c.finish_if.new.disk c.first_draft.new.disk c.finish_if.new.space c.first_draft.new.space r) why.1 c.first_draft.ensures.begins) in
    let wants : c.gets_draft-wanted.result ≡ true = drafted_by c.gets_draft-wanted.result c.first_draft.result e why.1 (λ no. (c.first_draft.ensures.bare (c.in_ok-room.ensures.room ∙ no)).0) in
    let fin = subst (λ r. FinishesLeft G k.disk c.finish_if.new.disk k.space c.finish_if.new.space r) c.in_ok-tried.was (c.finish_if.ensures.finished wants) in
    let now = tries_not G g.met.D.Disk.left_sized g.met.D.Disk.sized mid c.args.who c.args.id c.args.mode c.in-Some.kind listed tuid tuid_is goes c.first_draft.new.disk c.first_draft.new.space (sym c.gets_draft-wanted.ensures ∙ wants) e begins in
    let joined = tries_since G k c.finish_if.new.disk c.finish_if.new.space c.in_ok-tried.tried fin g.met.D.Disk.left_sized g.met.D.Disk.sized new begins.calls.same.size request (Err e) tt (err_never e (rw why.1 at c.first_draft.ensures.never)) c.args.who (draft_changes k c.args.id c.args.mode c.in-Some.kind listed (sym c.gets_draft-wanted.ensures ∙ wants)) (λ s serves. (goes_on s serves).0) now in
    rw (is_passed _ _ c.from_residual-in_err-draft.ensures.1) (subst (λ x. Tries G x (record new { handles = c.reserve.new.self.handles }) c.args.who request (Err c.in_err-draft.field-0.0)) c.self.view_is
    (subst (λ ss. Tries G k (record new { handles = ss }) c.args.who request (Err c.in_err-draft.field-0.0)) (sym c.reserve.ensures.handles)
    (subst (λ e. Tries G k new c.args.who request (Err e)) (sym why.2) joined)))

pub invariant_of-self-2 : goal.invariant_of-self-2
invariant_of-self-2 g c =
    let G = g.D.Disk in
    let tuid : Tuid = record { draw = c.drawn.result + 1; word = c.ahead.result } in
    let grant : OpenGrant = (record { tuid = tuid; session = c.args.who; id = c.args.id; mode = c.args.mode }) in
    let begins = subst (λ w. Begins G c.args.id.block w c.finish_if.new.disk c.first_draft.new.disk c.finish_if.new.space c.first_draft.new.space (Ok c.in_ok-draft.draft)) (c.in_ok-room.ensures.room ∙ c.gets_draft-wanted.ensures) (subst (λ r. Begins G c.args.id.block (is_some c.in_ok-room.room) c.finish_if.new.disk c.first_draft.new.disk c.finish_if.new.space c.first_draft.new.space r) (since_ok c.in_ok-tried.tried c.first_draft.result c.in_ok-draft.draft (sym c.since.ensures ∙ c.in_ok-draft.was)) c.first_draft.ensures.begins) in
    let next = ap (λ (w : Draws). w.drawn) c.next.ensures.drawn in
    let below = subst (λ n. c.args.id.block < n) (sym c.self.invariant.room) (subst (λ x. c.args.id.block < G.blocks x.disk) (sym c.self.view_is) (c.kind.ensures.on_disk (subst (λ o. IsSome o) (sym c.in-Some.is) refl))) in
    record {
      size = begins.calls.same.size ∙ c.finish_if.ensures.size ∙ c.self.invariant.size ∙ ap (λ n. 64 * n) (sym (c.first_draft.ensures.cylinders ∙ c.finish_if.ensures.cylinders));
      room = c.self.invariant.room ∙ sym (begins.calls.same.size ∙ c.finish_if.ensures.size);
      some = c.self.invariant.some;
      kept = c.self.invariant.kept;
      drawn_all = ap (list_all (is_drawn_by c.next.new.self.drawn)) c.open.ensures
          ∙ drawn_push c.reserve.new.self.handles _ c.self.inside.words.drawn c.next.new.self.drawn next (ap (λ n. n + 1) c.drawn.ensures ∙ sym next) (ap (list_all (is_drawn_by c.self.inside.words.drawn)) c.reserve.ensures.handles ∙ c.self.invariant.drawn_all);
      ready = ap (list_all (is_ready c.self.inside.directory.room)) c.open.ensures
          ∙ all_push (is_ready c.self.inside.directory.room) c.reserve.new.self.handles _ (ap (list_all (is_ready c.self.inside.directory.room)) c.reserve.ensures.handles ∙ c.self.invariant.ready)
          (begun_ready c.self.inside.directory.room c.in-Some.kind grant c.in_ok-draft.draft begins.ready below);
    }

pub returns : goal.returns
returns g c =
    let G = g.D.Disk in
    let k : Kernel _ = record { disk = c.self.inside.disk; root = c.self.inside.root; directory = c.self.inside.directory; space = c.self.inside.space; words = c.self.inside.words; handles = c.self.inside.handles.handles; collections = c.self.inside.collections; stop = c.self.inside.stop } in
    let request = asks.OpenFor c.args.id c.args.mode in
    let listed : directory_kind k.directory.named c.args.id ≡ Some c.in-Some.kind = ap (λ x. directory_kind x.directory.named c.args.id) c.self.view_is ∙ sym c.kind.ensures.kind ∙ c.in-Some.is in
    let gs = grants_in c.reserve.new.self.handles in
    let tuid : Tuid = record { draw = c.drawn.result + 1; word = c.ahead.result } in
    let grant : OpenGrant = (record { tuid = tuid; session = c.args.who; id = c.args.id; mode = c.args.mode }) in
    let tuid_is : tuid ≡ record { draw = k.words.drawn + 1; word = word k.words.seed (k.words.drawn + 1) } =
    ap (λ n. record { draw = n + 1; word = c.ahead.result }) c.drawn.ensures ∙ ap (λ w. record { draw = c.self.inside.words.drawn + 1; word = w }) c.ahead.ensures in
    let none : fault_of gs grant ≡ None = sym c.fault.ensures ∙ c.in_default-fault.is in
    let mid : Kernel _ = record k { disk = c.finish_if.new.disk; space = c.finish_if.new.space } in
    let goes_on : (s : State) → ServesIs g.D.Disk k s → (refusal_of s c.args.who request ≡ None) × (is_locked s c.args.who request ≡ false) =
    λ s serves. none_told g.D.Disk k s serves c.args.who c.args.id c.args.mode c.in-Some.kind listed tuid gs (ap grants_in c.reserve.ensures.handles) (c.table_follows_the_model.ensures.locked s c.args.who grant) (c.table_follows_the_model.ensures.full s c.args.who c.args.id c.args.mode) none in
    let goes : (s : State) → CoreServes g.D.Disk mid s → (refusal_of s c.args.who request ≡ None) × (is_locked s c.args.who request ≡ false) =
    λ s serves. none_told g.D.Disk mid s serves c.args.who c.args.id c.args.mode c.in-Some.kind listed tuid gs (ap grants_in c.reserve.ensures.handles) (c.table_follows_the_model.ensures.locked s c.args.who grant) (c.table_follows_the_model.ensures.full s c.args.who c.args.id c.args.mode) none in
    let begins = subst (λ w. Begins G c.args.id.block w c.finish_if.new.disk c.first_draft.new.disk c.finish_if.new.space c.first_draft.new.space (Ok c.in_ok-draft.draft)) (c.in_ok-room.ensures.room ∙ c.gets_draft-wanted.ensures) (subst (λ r. Begins G c.args.id.block (is_some c.in_ok-room.room) c.finish_if.new.disk c.first_draft.new.disk c.finish_if.new.space c.first_draft.new.space r) (since_ok c.in_ok-tried.tried c.first_draft.result c.in_ok-draft.draft (sym c.since.ensures ∙ c.in_ok-draft.was)) c.first_draft.ensures.begins) in
    let pushed = c.open.ensures ∙ ap (λ ss. ss ++ record { grant = grant; drafting = c.in_ok-draft.draft } ∷ []) c.reserve.ensures.handles in
    let new : Kernel _ = record k { disk = c.first_draft.new.disk; space = c.first_draft.new.space; words = c.next.new.self; handles = k.handles ++ record { grant = grant; drafting = c.in_ok-draft.draft } ∷ [] } in
    let done : Tries G k new c.args.who request (Ok (replies.Grant tuid)) = elim (cases_Bool c.gets_draft-wanted.result) [
      | inl wants ↦ (
          let fin = subst (λ r. FinishesLeft G k.disk c.finish_if.new.disk k.space c.finish_if.new.space r) c.in_ok-tried.was (c.finish_if.ensures.finished wants) in
          let now = tries_open G g.met.D.Disk.left_sized g.met.D.Disk.sized mid c.args.who c.args.id c.args.mode c.in-Some.kind listed tuid tuid_is goes c.first_draft.new.disk c.first_draft.new.space c.next.new.self c.next.ensures.drawn (sym c.gets_draft-wanted.ensures ∙ wants) c.in_ok-draft.draft begins in
          tries_since G k c.finish_if.new.disk c.finish_if.new.space c.in_ok-tried.tried fin g.met.D.Disk.left_sized g.met.D.Disk.sized new begins.calls.same.size request (Ok (replies.Grant tuid)) refl (λ is. cc) c.args.who (draft_changes k c.args.id c.args.mode c.in-Some.kind listed (sym c.gets_draft-wanted.ensures ∙ wants)) (λ s serves. (goes_on s serves).0) now)
      | inr bare ↦ (
          let idle = (c.finish_if.ensures.idle bare) in
          let none_begun = c.first_draft.ensures.bare (c.in_ok-room.ensures.room ∙ bare) in
          let draft_is : c.in_ok-draft.draft ≡ None = ok_is c.in_ok-draft.draft None (sym (since_ok c.in_ok-tried.tried c.first_draft.result c.in_ok-draft.draft (sym c.since.ensures ∙ c.in_ok-draft.was)) ∙ none_begun.0) in
          subst (λ o. Tries G k (record k { disk = c.first_draft.new.disk; space = c.first_draft.new.space; words = c.next.new.self; handles = k.handles ++ record { grant = grant; drafting = o } ∷ [] }) c.args.who request (Ok (replies.Grant tuid))) (sym draft_is)
          (subst (λ d. Tries G k (record k { disk = d; space = c.first_draft.new.space; words = c.next.new.self; handles = k.handles ++ record { grant = grant; drafting = None } ∷ [] }) c.args.who request (Ok (replies.Grant tuid))) (sym (none_begun.1 ∙ idle.1))
          (subst (λ y. Tries G k (record k { space = y; words = c.next.new.self; handles = k.handles ++ record { grant = grant; drafting = None } ∷ [] }) c.args.who request (Ok (replies.Grant tuid))) (sym (none_begun.2 ∙ idle.2))
          (tries_bare G g.met.D.Disk.left_sized g.met.D.Disk.sized k c.args.who c.args.id c.args.mode c.in-Some.kind listed tuid tuid_is (λ s serves. (goes_on s serves).0) (sym c.gets_draft-wanted.ensures ∙ bare) c.next.new.self c.next.ensures.drawn))))
    ] in
    subst (λ x. Tries G x (record k { disk = c.first_draft.new.disk; space = c.first_draft.new.space; words = c.next.new.self; handles = c.open.new.self.handles }) c.args.who request (Ok (replies.Grant tuid))) c.self.view_is
    (subst (λ ss. Tries G k (record k { disk = c.first_draft.new.disk; space = c.first_draft.new.space; words = c.next.new.self; handles = ss }) c.args.who request (Ok (replies.Grant tuid))) (sym pushed) done)
