-- What may happen next, and the state after it.
use Rattle.std.specs.Prelude.{ℕ, ◌+◌, Bool, true, false, not, ◌&&◌, ◌||◌, ◌==◌, nat_lt, is_none, if◌then◌else◌, List}
use Rattle.std.specs.Prelude.{[], ◌∷◌, Option, Some, None, option_to_list}
use Rattle.std.specs.Option.{option_map_or}
use Rattle.std.specs.Str.{bytes_eq}
use Rattle.cfs_base.specs.declared.refusal.Need.{Need}
use Rattle.ufs_model.specs.Limits.{reserve}
use Rattle.ufs_model.specs.declared.asked.Ref.TheVariants.{Direct}
use Rattle.ufs_model.specs.declared.asked.Request.{Request}
use Rattle.ufs_model.specs.declared.asked.Request.TheVariants as asks
use Rattle.ufs_model.specs.declared.asked.Reply.{Reply}
use Rattle.ufs_model.specs.declared.asked.Reply.TheVariants as replies
use Rattle.ufs_model.specs.declared.asked.Event.{Event}
use Rattle.ufs_model.specs.declared.asked.Event.TheVariants as events
use Rattle.ufs_model.specs.declared.collection.Collection.{Collection}
use Rattle.ufs_model.specs.declared.collection.Collection.TheVariants as collections
use Rattle.ufs_model.specs.Graph.{without, is_free_root}
use Rattle.ufs_model.specs.State.{State, is_running, stopped_at, pairs_of, after_leave}
use Rattle.ufs_model.specs.Need.{need_of}
use Rattle.ufs_model.specs.Refusal.{refusal_of}
use Rattle.ufs_model.specs.Outcome.{outcome_of, creates, block_named}
use Rattle.ufs_model.specs.Reach.{starts_now}
use Rattle.ufs_model.specs.Vanish.{may_vanish}

abbrev pub allowed_if : Bool → State → Option State
allowed_if b s = if b then Some s else None

-- ---- whether two replies are the same

-- the number of a reply's variant, and the numbers that it carries
abbrev pub parts_of : Reply → ℕ × List ℕ
parts_of replies.Done = (0, [])
parts_of (replies.Id id) = (1, id.block ∷ id.word ∷ [])
parts_of (replies.Grant t) = (2, t.draw ∷ t.word ∷ [])
parts_of (replies.Number n) = (3, n ∷ [])
parts_of (replies.Content bytes) = (4, bytes)
parts_of replies.Memory = (5, [])
parts_of (replies.Stopped moment) = (6, moment ∷ [])
parts_of replies.NoGrant = (7, [])
parts_of replies.NoObject = (8, [])
parts_of replies.NotIndex = (9, [])
parts_of replies.NotFile = (10, [])
parts_of replies.ReadOnly = (11, [])
parts_of replies.Locked = (12, [])
parts_of replies.Slot = (13, [])
parts_of replies.Empty = (14, [])
parts_of replies.Range = (15, [])
parts_of replies.Grants = (16, [])
parts_of (replies.Full n) = (17, n.free ∷ n.need ∷ [])
parts_of (replies.Disk doubt) = (18, option_to_list doubt)
parts_of (replies.Damaged d moment) = (19, d.block ∷ d.code ∷ moment ∷ [])

abbrev pub same_reply : Reply → Reply → Bool
same_reply a b = ((parts_of a).0 == (parts_of b).0) && bytes_eq (parts_of a).1 (parts_of b).1

-- ---- which answer may be given

abbrev pub is_stopped_at : State → ℕ → Bool
is_stopped_at s moment = option_map_or (λ m. m == moment) s.stopped false

abbrev pub is_refusal : State → ℕ → Request → Reply → Bool
is_refusal s who request reply = is_running s && option_map_or (same_reply reply) (refusal_of s who request) false

-- a request that is not refused
abbrev pub goes_through : State → ℕ → Request → Bool
goes_through s who request = is_running s && is_none (refusal_of s who request)

-- the outcome's reply, for the root block that the reply names
abbrev pub is_outcome : ℕ → State → ℕ → Request → Reply → Bool
is_outcome seed s who request reply =
    goes_through s who request
    && (not (creates request) || is_free_root s.graph (block_named reply))
    && same_reply (outcome_of seed s who request (block_named reply)).0 reply

-- a delete that goes through no grant
abbrev pub is_direct_delete : Request → Bool
is_direct_delete (asks.Delete (Direct id) slot) = true
is_direct_delete request = false

-- so few blocks are Free that the request would take one of the last four, which only a direct delete may
abbrev pub is_full : State → ℕ → Request → Need → Bool
is_full s who request n =
    goes_through s who request && not (is_direct_delete request)
    && (n.need == need_of s who request) && nat_lt n.free (n.need + reserve)

-- the state after an answer that is the outcome's
abbrev pub by_outcome : ℕ → State → ℕ → Request → Reply → Option State
by_outcome seed s who request reply =
    allowed_if (is_outcome seed s who request reply) (outcome_of seed s who request (block_named reply)).1

-- the state after an answer, if it may be given
abbrev pub answered : ℕ → State → ℕ → Request → Reply → Option State
answered seed s who request replies.Memory = Some s
answered seed s who request (replies.Stopped moment) = allowed_if (is_stopped_at s moment) s
answered seed s who request (replies.Disk None) = allowed_if (is_running s) s
answered seed s who request (replies.Disk (Some moment)) = allowed_if (is_running s) (stopped_at moment s)
answered seed s who request (replies.Damaged damage moment) = allowed_if (is_running s) (stopped_at moment s)
answered seed s who request (replies.Full n) = allowed_if (is_full s who request n) s
answered seed s who request replies.NoGrant = allowed_if (is_refusal s who request replies.NoGrant) s
answered seed s who request replies.NoObject = allowed_if (is_refusal s who request replies.NoObject) s
answered seed s who request replies.NotIndex = allowed_if (is_refusal s who request replies.NotIndex) s
answered seed s who request replies.NotFile = allowed_if (is_refusal s who request replies.NotFile) s
answered seed s who request replies.ReadOnly = allowed_if (is_refusal s who request replies.ReadOnly) s
answered seed s who request replies.Locked = allowed_if (is_refusal s who request replies.Locked) s
answered seed s who request replies.Slot = allowed_if (is_refusal s who request replies.Slot) s
answered seed s who request replies.Empty = allowed_if (is_refusal s who request replies.Empty) s
answered seed s who request replies.Range = allowed_if (is_refusal s who request replies.Range) s
answered seed s who request replies.Grants = allowed_if (is_refusal s who request replies.Grants) s
answered seed s who request replies.Done = by_outcome seed s who request replies.Done
answered seed s who request (replies.Id id) = by_outcome seed s who request (replies.Id id)
answered seed s who request (replies.Grant t) = by_outcome seed s who request (replies.Grant t)
answered seed s who request (replies.Number n) = by_outcome seed s who request (replies.Number n)
answered seed s who request (replies.Content bytes) = by_outcome seed s who request (replies.Content bytes)

-- ---- the events

abbrev pub is_idle : Collection → Bool
is_idle collections.None = true
is_idle (collections.Marking edges starts) = false
is_idle collections.Sweeping = false

abbrev pub is_sweeping : Collection → Bool
is_sweeping collections.None = false
is_sweeping (collections.Marking edges starts) = false
is_sweeping collections.Sweeping = true

-- the state after an event, if it may happen
abbrev pub next : ℕ → State → Event → Option State
next seed s (events.Unread who why) = Some s
next seed s (events.Ask who request reply) = answered seed s who request reply
next seed s (events.Leave who None) = Some (after_leave s who)
next seed s (events.Leave who (Some moment)) = allowed_if (is_running s) (stopped_at moment (after_leave s who))
next seed s events.Began =
    allowed_if (is_running s && is_idle s.collection)
    (record s { collection = collections.Marking (pairs_of s) (starts_now s) })
next seed s (events.Vanish ids) =
    allowed_if (is_running s && may_vanish s ids)
    (record s { graph = without s.graph ids; collection = collections.Sweeping })
next seed s events.Finished =
    allowed_if (is_running s && is_sweeping s.collection) (record s { collection = collections.None })
next seed s (events.Halted moment) = allowed_if (is_running s) (stopped_at moment s)
