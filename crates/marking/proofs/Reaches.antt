-- What was reached at any time since a collection began.
use Rattle.std.proofs.Common.{◌≡◌, true, subst, Option, Some, None, List}
use Rattle.marking.proofs.Words.{Along, Collection, Colours, IsColoured, IsReached, Owed, Puid, Rescue, Start, State, edges, is_index_there, is_live, is_remembered, starts}
use Rattle.marking.proofs.Wells.{IsWell}

abbrev pub WasReached : Collection → Puid → Type 0
WasReached k x = IsReached (edges k) (starts k) x

-- where more is remembered no less is reached
pub reach_more : (k m : Collection) → ((index : Option Puid) (x : Puid) → is_remembered k index x ≡ true → is_remembered m index x ≡ true) → (x : Puid) → WasReached k x → WasReached m x
reach_more k m more x (Start at) = Start (more None x at)
reach_more k m more x (Along {i} before pair) = Along (reach_more k m more i before) (more (Some i) x pair)

-- what is remembered of a marked index, or of none, was reached
pub live_reached : (s : State) (owed : Owed) (c : Colours) (waiting : List Rescue) → IsWell s → IsColoured s owed c waiting → (from : Option Puid) (x : Puid)
    → is_live from c ≡ true → is_remembered s.collection from x ≡ true → is_index_there s.graph from ≡ true → WasReached s.collection x
live_reached s owed c waiting well is None x live remembered there = Start remembered
live_reached s owed c waiting well is (Some i) x live remembered there =
    let y = is.known i.block live in
    Along (subst (λ (k : Puid). WasReached s.collection k) (well.alone y.0 i y.2 there y.1) y.3) remembered
