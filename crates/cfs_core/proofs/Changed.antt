-- How a call ends that changes one object.
use Rattle.std.proofs.Common.{◌≡◌, ℕ, ◌+◌, ◌≤◌, [], ◌∷◌, length, true, false, Option, Some, None, IsTrue, IsSome, refl, sym, ◌∙◌, ap, subst, arith, map, option_map, sum}
use Rattle.cfs_core.proofs.Words.{and_parts, block_there, blocks_of, ChangesOnly, creates, Ghosts, Graph, has_block, has_block-still, has_number, Image, insert_entry-same, is_placed, is_taken, IsOfThese, IsSpeakable, keys_of-kinds_in, directory_kind-kinds_in, object_kind, kinds_in-insert_entry, kinds_of, MapEntry, Object, object_at, object_at-with_object, of_owner, outcome_of, owner_of, Puid, refusal_of, taken_put, Request, rises, same_puid_itself, State, with_object}
use Rattle.ufs_model.specs.declared.asked.Event.TheVariants as events
use Rattle.ufs_model.specs.declared.asked.Reply.TheVariants as replies
use Rattle.cfs_core.specs.Calls.{Answers, IsInDoubt, IsShortOfBlocks}
use Rattle.cfs_core.specs.Claimed.{TakesForRequest}
use Rattle.cfs_core.specs.Kernel.{Kernel}
use Rattle.intentions.specs.Left.{StoreIs}
use Rattle.cfs_core.specs.Commits.{commits}
use Rattle.cfs_core.specs.StandsFor.{CoreServes, bare, drafts_of_handles, end_in}
use Rattle.cfs_core.proofs.Committed.{IsOutcome, LeavesThese, did, in_doubt}
use Rattle.cfs_core.proofs.Grown.{replaced_blocks}
use Rattle.cfs_core.proofs.Moved.{IsStepped}
use Rattle.cfs_core.proofs.Refusing.{Puts}

-- what is had by an object that is there stays of one that is there
pub of_this : (g : Graph) (id : Puid) (o : Object) → IsOfThese (λ entry. of_owner id.block entry) g (with_object g id o)
of_this g id o = record {
  there = λ entry is made. let two = and_parts (is_placed is_taken entry) _ is in at entry (and_parts_or (owner_of entry) two.1);
  more = λ r has. has_block-still r id o g.objects has;
}
  where
    here : has_block (with_object g id o).objects id.block ≡ true
    here = block_there (with_object g id o) id o (object_at-with_object g id o id ∙ rw (same_puid_itself id) refl)

    and_parts_or : (n : ℕ) → has_number n (id.block ∷ []) ≡ true → n ≡ id.block
    and_parts_or n has = grind (arith, Rattle.std.proofs.lemmas.Bool.Decides.nat_tests)

    at : (entry : Option MapEntry) → owner_of entry ≡ id.block → has_block (with_object g id o).objects (owner_of entry) ≡ true
    at entry is = rw is here

module _ {D : Type 0} (g : Ghosts D) (left_sized : (d : D) (t : ℕ) (c : Image) → g.left_since d t c → length c ≡ g.blocks d) (sized : (d : D) → IsTrue (g.honest d) → length (g.content d) ≡ g.blocks d)
    (old new : Kernel D) (size : g.blocks new.disk ≡ g.blocks old.disk) (same : new ≡ record old { disk = new.disk; space = new.space }) (none : old.stop ≡ None)
    (s after : State) (who : ℕ) (request : Request) (serves : CoreServes g old s) (id : Puid) (was o : Object) (found : object_at s.graph id ≡ Some was) (alike : object_kind o ≡ object_kind was) (n : ℕ) (more : blocks_of o ≤ blocks_of was + n)
    (goes : refusal_of s who request ≡ None) (makes : creates request ≡ false) (speaks : IsSpeakable (events.Ask who request replies.Done)) (out : outcome_of old.words.seed s who request 0 ≡ (replies.Done, after)) (puts : Puts s after id o)
    (short : ¬ IsShortOfBlocks s who request (sum old.space.free)) (free : n + 4 ≤ sum old.space.free) (leaves : LeavesThese g old.disk new.disk s who request replies.Done (with_object s.graph id o)) where
  abbrev h : Graph
  h = with_object s.graph id o

  no_create : {A : Type 0} → creates request ≡ true → A
  no_create made = let no : true ≡ false = sym made ∙ makes in cc

  outcome : IsOutcome old s who 0 request replies.Done after h n
  outcome = record {
    allowed = goes;
    names = no_create;
    speaks = speaks;
    out = out;
    graph = puts.graph;
    few = replaced_blocks s.graph id was o n serves.store.ordered found more;
    free = free;
  }

  directory_stays : kinds_of h ≡ kinds_of s.graph
  directory_stays = kinds_in-insert_entry s.graph.objects id o
      ∙ insert_entry-same _ id (object_kind o) (ap rises (keys_of-kinds_in s.graph.objects) ∙ serves.store.ordered) (directory_kind-kinds_in s.graph.objects id ∙ ap (option_map object_kind) found ∙ ap (λ k. Some k) (sym alike))

  stepped : IsStepped old new s after h
  stepped = subst (λ (k : Kernel D). IsStepped old k s after h) (sym same) (record {
    graph = puts.graph;
    rooted = refl;
    stopped = puts.stopped;
    sweeping = puts.sweeping;
    drawn = puts.drawn ∙ serves.front.drawn;
    named = serves.front.directory ∙ sym directory_stays;
    root = refl;
    stop = refl;
    table = serves.front.grants ∙ ap (map bare) (sym puts.grants);
  })

  pub object_in_doubt : IsInDoubt g old new s who request
  object_in_doubt = in_doubt g left_sized sized old new size none s after who 0 request replies.Done serves h n outcome leaves same

  pub object_did : StoreIs g h (drafts_of_handles old.handles s.grants) new.disk new.space → ChangesOnly (λ entry. of_owner id.block entry) (g.content old.disk) (end_in g new) → TakesForRequest old.handles s who request replies.Done (g.content old.disk) (end_in g new)
      → (commits s who request ≡ true → IsSome new.space.left) → Answers g None old new s who request replies.Done
  object_did store only takes noted = did g left_sized sized old new size none s after who 0 request replies.Done serves h n outcome leaves stepped (ap (λ (k : Kernel D). k.handles) same) puts.grants (id.block ∷ [])
      (record { store = store; only = only; these = of_this s.graph id o }) (taken_put s.graph (drafts_of_handles old.handles s.grants) id was o serves.store.ordered found) tt refl short no_create takes noted
