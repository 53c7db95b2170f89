-- Requests on an index that they reach: when they are refused, and what they do.
use Rattle.std.proofs.Common.{◌≡◌, ◌⊎◌, inl, inr, ℕ, List, ◌<◌, length, Bool, true, false, Option, Some, None, is_none, refl, sym, ◌∙◌, ap, subst, arith, nat_le, nat_lt}
use Rattle.ufs_model.specs.Next.{is_direct_delete}
use Rattle.cfs_core.proofs.Words.{AFile, AnIndex, Change, changed, changed_draft, changed_object, Draft, draft_of, edge_stays, File, FileKind, Fill, has_no_slot, Index, index_with, is_id, is_range, is_running, object_kind, named, nat_tests, need_of, next, Object, object_at, outcome_of, Puid, put_object-at, Ref, refusal_of, Reply, Request, seen, seen_object, slot_named, slot_of, State, with_object}
use Rattle.cfs_base.specs.declared.kind.FileKind.TheVariants as file_kinds
use Rattle.ufs_model.specs.Limits.{most_bytes}
use Rattle.ufs_model.specs.declared.asked.Reply.TheVariants as replies
use Rattle.ufs_model.specs.declared.asked.Request.TheVariants as asks
use Rattle.ufs_model.specs.declared.object.Object.TheVariants as objects
use Rattle.ufs_model.specs.declared.asked.Event.TheVariants as events
use Rattle.cfs_core.specs.Calls.{looked}
use Rattle.cfs_core.specs.Looks.{content_reply, counted, measured}
use Rattle.cfs_core.specs.Makes.{made_kind}
use Rattle.cfs_core.specs.StandsFor.{sweeps_now}
use Rattle.cfs_core.specs.Ways.{Reaches, unfit_of}

-- ---- the state with another object in the place of one

pub record Puts (s after : State) (id : Puid) (o : Object) : Type 0 where
  pub graph : after.graph ≡ with_object s.graph id o
  pub grants : after.grants ≡ s.grants
  pub drawn : after.drawn ≡ s.drawn
  pub stopped : after.stopped ≡ s.stopped
  pub sweeping : sweeps_now after.collection ≡ sweeps_now s.collection

-- an object that has no draft through the reference, changed
pub put_is : (s : State) (who : ℕ) (to : Ref) (id : Puid) (o : Object) (change : Change) → named s who to ≡ Some id → draft_of s who to ≡ None → object_at s.graph id ≡ Some o
    → changed s who to change ≡ record s { graph = with_object s.graph id (changed_object change o) }
put_is s who to id o change name bare there = put_object-at s who to id (changed_draft change (seen s who to)) name bare
    ∙ ap (λ (d : Draft). record s { graph = with_object s.graph id (changed_draft change d).object }) (seen_object s who to id o name bare there)

pub index_there : (o : Object) → unfit_of AnIndex (Some (object_kind o)) ≡ None → (i : Index) × (o ≡ objects.Index i)
index_there (objects.Index i) is = (i, refl)
index_there (objects.File f) is = absurd (at f.kind is)
  where
    at : (k : FileKind) → unfit_of AnIndex (Some (object_kind (objects.File (record f { kind = k })))) ≡ None → ⊥
    at file_kinds.Normal is = cc
    at file_kinds.Special is = cc

pub file_there : (o : Object) → unfit_of AFile (Some (object_kind o)) ≡ None → (f : File) × (o ≡ objects.File f)
file_there (objects.File f) is = (f, refl)
file_there (objects.Index i) is = cc

pub file_kind_is : (f : File) (kind : FileKind) → object_kind (objects.File f) ≡ made_kind kind → f.kind ≡ kind
file_kind_is f kind is = at f.kind kind is
  where
    at : (a b : FileKind) → object_kind (objects.File (record f { kind = a })) ≡ made_kind b → a ≡ b
    at file_kinds.Normal file_kinds.Normal is = refl
    at file_kinds.Normal file_kinds.Special is = cc
    at file_kinds.Special file_kinds.Normal is = cc
    at file_kinds.Special file_kinds.Special is = refl

-- ---- an index that is read

-- refused with this reply, or done with it, the state as it was
abbrev pub IsSeen : (seed : ℕ) (s : State) (who : ℕ) (request : Request) (reply : Reply) → Type 0
IsSeen seed s who request reply = (refusal_of s who request ≡ Some reply) ⊎ ((refusal_of s who request ≡ None) × ((b : ℕ) → outcome_of seed s who request b ≡ (reply, s)))

module _ (seed : ℕ) (s : State) (who : ℕ) (to : Ref) (index : Puid) (i : Index) where
  -- it reaches the index, and what is there depends on the slot
  abbrev Reached : Request → Type 0
  Reached request = Reaches s who request index (objects.Index i)

  pub slots_seen : Reached (asks.Slots to) → IsSeen seed s who (asks.Slots to) (counted i)
  slots_seen r = inr (r.rest, λ b. rw (r.bare, r.name, r.there) refl)

  pub retrieve_seen : (slot : ℕ) → Reached (asks.Retrieve to slot) → IsSeen seed s who (asks.Retrieve to slot) (looked i slot)
  retrieve_seen slot r = at (nat_le (length i.slots) slot) (slot_of i slot) refl refl
    where
      at : (t : Bool) (o : Option Puid) → nat_le (length i.slots) slot ≡ t → slot_of i slot ≡ o → IsSeen seed s who (asks.Retrieve to slot) (looked i slot)
      at true o is what = inl (r.rest ∙ rw (r.bare, r.name, r.there, is) refl)
      at false None is what = inl (r.rest ∙ rw (r.bare, r.name, r.there, is, what) refl)
      at false (Some id) is what = inr (r.rest ∙ rw (r.bare, r.name, r.there, is, what) refl, λ b. rw (r.bare, r.name, r.there, is, what) refl)

  -- ---- one that is changed

  pub delete_refused : (slot : ℕ) (reply : Reply) → Reached (asks.Delete to slot) → reply ≡ looked i slot → is_id reply ≡ false → refusal_of s who (asks.Delete to slot) ≡ Some reply
  delete_refused slot reply r same no_id = at (nat_le (length i.slots) slot) (slot_of i slot) refl refl
    where
      at : (t : Bool) (o : Option Puid) → nat_le (length i.slots) slot ≡ t → slot_of i slot ≡ o → refusal_of s who (asks.Delete to slot) ≡ Some reply
      at true o is what = let here : looked i slot ≡ replies.Slot = rw is refl in r.rest ∙ rw (r.bare, r.name, r.there, is) (ap (λ r. Some r) (sym (same ∙ here)))
      at false None is what = let here : looked i slot ≡ replies.Empty = rw (is, what) refl in r.rest ∙ rw (r.bare, r.name, r.there, is, what) (ap (λ r. Some r) (sym (same ∙ here)))
      at false (Some id) is what = let here : looked i slot ≡ replies.Id id = rw (is, what) refl in let no : true ≡ false = sym (ap is_id (same ∙ here)) ∙ no_id in cc

  pub delete_goes : (slot : ℕ) → Reached (asks.Delete to slot) → is_id (looked i slot) ≡ true → (refusal_of s who (asks.Delete to slot) ≡ None) × (slot < length i.slots)
  delete_goes slot r same = at (nat_le (length i.slots) slot) (slot_of i slot) refl refl
    where
      at : (t : Bool) (o : Option Puid) → nat_le (length i.slots) slot ≡ t → slot_of i slot ≡ o → (refusal_of s who (asks.Delete to slot) ≡ None) × (slot < length i.slots)
      at true o is what = let here : looked i slot ≡ replies.Slot = rw is refl in let no : false ≡ true = sym (ap is_id here) ∙ same in cc
      at false None is what = let here : looked i slot ≡ replies.Empty = rw (is, what) refl in let no : false ≡ true = sym (ap is_id here) ∙ same in cc
      at false (Some x) is what = (r.rest ∙ rw (r.bare, r.name, r.there, is, what) refl, grind (arith, nat_tests))

  pub delete_holds : (slot : ℕ) → Reached (asks.Delete to slot) → refusal_of s who (asks.Delete to slot) ≡ None → is_none (slot_of i slot) ≡ false
  delete_holds slot r goes = at (nat_le (length i.slots) slot) (slot_of i slot) refl refl
    where
      at : (t : Bool) (o : Option Puid) → nat_le (length i.slots) slot ≡ t → slot_of i slot ≡ o → is_none o ≡ false
      at true o is what = let no : Some replies.Slot ≡ None = sym (r.rest ∙ rw (r.bare, r.name, r.there, is) refl) ∙ goes in cc
      at false None is what = let no : Some replies.Empty ≡ None = sym (r.rest ∙ rw (r.bare, r.name, r.there, is, what) refl) ∙ goes in cc
      at false (Some id) is what = refl

  -- the state after a slot is filled or emptied
  pub retain_out : (slot : ℕ) (id : Puid) → Reached (asks.Retain to slot id) → Puts s (outcome_of seed s who (asks.Retain to slot id) 0).1 index (index_with i slot (Some id))
  retain_out slot id r = record {
    graph = ap (λ (t : State). t.graph) (put_is s who to index (objects.Index i) (Fill slot (Some id)) r.name r.bare r.there);
    grants = ap (λ (t : State). t.grants) (put_is s who to index (objects.Index i) (Fill slot (Some id)) r.name r.bare r.there);
    drawn = ap (λ (t : State). t.drawn) (put_is s who to index (objects.Index i) (Fill slot (Some id)) r.name r.bare r.there);
    stopped = ap (λ (t : State). t.stopped) (put_is s who to index (objects.Index i) (Fill slot (Some id)) r.name r.bare r.there);
    sweeping = edge_stays sweeps_now (λ a b c d. refl) (named s who to) id s.collection;
  }

  pub delete_out : (slot : ℕ) → Reached (asks.Delete to slot) → Puts s (outcome_of seed s who (asks.Delete to slot) 0).1 index (index_with i slot None)
  delete_out slot r = subst (λ (t : State). Puts s t index (index_with i slot None)) (sym (put_is s who to index (objects.Index i) (Fill slot None) r.name r.bare r.there))
      (record { graph = refl; grants = refl; drawn = refl; stopped = refl; sweeping = refl })

  pub retain_need : (slot : ℕ) (id : Puid) → Reached (asks.Retain to slot id) → need_of s who (asks.Retain to slot id) ≡ 3
  retain_need slot id r = rw (r.bare, r.name, r.there) refl

  pub delete_need : (slot : ℕ) → Reached (asks.Delete to slot) → need_of s who (asks.Delete to slot) ≡ 3
  delete_need slot r = rw (r.bare, r.name, r.there) refl

  pub delete_full : (slot free : ℕ) → Reached (asks.Delete to slot) → is_running s ≡ true → refusal_of s who (asks.Delete to slot) ≡ None → is_direct_delete (asks.Delete to slot) ≡ false → free < 7
      → next seed s (events.Ask who (asks.Delete to slot) (replies.Full (record { free = free; need = 3 }))) ≡ Some s
  delete_full slot free r run goes indirect few = let less : nat_lt free 7 ≡ true = grind (arith, nat_tests) in rw (run, goes, indirect, delete_need slot r, less) refl

  -- ---- one that names a slot

  -- it is refused where the index has no such slot, and else for nothing but what the slot has
  pub beyond : (request : Request) (slot : ℕ) → Reached request → slot_named request ≡ Some slot → nat_lt slot (length i.slots) ≡ false → refusal_of s who request ≡ Some replies.Slot
  beyond request slot r names past = let out : nat_le (length i.slots) slot ≡ true = grind (arith, nat_tests) in r.rest ∙ rw (names, r.bare, r.name, r.there, out) refl

  pub within : (request : Request) (slot : ℕ) → Reached request → slot_named request ≡ Some slot → slot < length i.slots → has_no_slot s who request ≡ false
  within request slot r names less = let below : nat_le (length i.slots) slot ≡ false = grind (arith, nat_tests) in rw (names, r.bare, r.name, r.there, below) refl

  pub retain_goes : (slot : ℕ) (id : Puid) → Reached (asks.Retain to slot id) → slot < length i.slots → refusal_of s who (asks.Retain to slot id) ≡ None
  retain_goes slot id r less = r.rest ∙ rw (within (asks.Retain to slot id) slot r refl less) refl

  pub retain_full : (slot free : ℕ) (id : Puid) → Reached (asks.Retain to slot id) → is_running s ≡ true → refusal_of s who (asks.Retain to slot id) ≡ None → free < 7
      → next seed s (events.Ask who (asks.Retain to slot id) (replies.Full (record { free = free; need = 3 }))) ≡ Some s
  retain_full slot free id r run goes few = let less : nat_lt free 7 ≡ true = grind (arith, nat_tests) in rw (run, goes, retain_need slot id r, less) refl

-- ---- a file that is read

module _ (seed : ℕ) (s : State) (who : ℕ) (to : Ref) (id : Puid) (f : File) where
  pub size_seen : Reaches s who (asks.Size to) id (objects.File f) → IsSeen seed s who (asks.Size to) (measured f)
  size_seen r = inr (r.rest, λ b. rw (r.bare, r.name, r.there) refl)

  pub read_seen : (offset count : ℕ) → Reaches s who (asks.Read to offset count) id (objects.File f) → IsSeen seed s who (asks.Read to offset count) (content_reply f offset count)
  read_seen offset count r = at (is_range (length f.bytes) offset count) refl
    where
      at : (t : Bool) → is_range (length f.bytes) offset count ≡ t → IsSeen seed s who (asks.Read to offset count) (content_reply f offset count)
      at true is = inr (r.rest ∙ rw (r.bare, r.name, r.there, is) refl, λ b. rw (r.bare, r.name, r.there, is) refl)
      at false is = inl (r.rest ∙ rw (r.bare, r.name, r.there, is) refl)

  -- ---- one that is changed

  module _ (offset : ℕ) (bytes : List ℕ) (r : Reaches s who (asks.Write to offset bytes) id (objects.File f)) where
    pub write_goes : is_range (length f.bytes) offset (length bytes) ≡ true → refusal_of s who (asks.Write to offset bytes) ≡ None
    write_goes is = r.rest ∙ rw (r.bare, r.name, r.there, is) refl

    pub write_range : is_range (length f.bytes) offset (length bytes) ≡ false → refusal_of s who (asks.Write to offset bytes) ≡ Some replies.Range
    write_range is = r.rest ∙ rw (r.bare, r.name, r.there, is) refl

  module _ (size : ℕ) (r : Reaches s who (asks.Resize to size) id (objects.File f)) where
    pub resize_goes : nat_lt most_bytes size ≡ false → refusal_of s who (asks.Resize to size) ≡ None
    resize_goes is = r.rest ∙ rw is refl

    pub resize_range : nat_lt most_bytes size ≡ true → refusal_of s who (asks.Resize to size) ≡ Some replies.Range
    resize_range is = r.rest ∙ rw is refl
