-- An entry stays one where its block becomes Allocated.
use Rattle.std.proofs.Common.{◌≡◌, ℕ, Bool, true, false, Option, Some, None, refl}
use Rattle.cfs_recover.proofs.Words.{Allocated, BlockState, Free, IntendAllocate, IntendDeallocate, IsEntry, Leaf, Span, MapEntry, Node, Place, ShadowRoot, is_entry, tidied}
use Rattle.cfs_base.specs.declared.kind.Place.TheVariants.{Root}

allocated : (s : BlockState) (bit : Bool) (p : Option Place) (o : ℕ) → is_entry (record { state = s; committed = bit; place = p; owner = o }) ≡ true → is_entry (record { state = Allocated; committed = false; place = p; owner = o }) ≡ true
allocated Allocated false p o is = is
allocated Free true None o is = cc
allocated Free true (Some Root) o is = cc
allocated Free true (Some ShadowRoot) o is = cc
allocated Free true (Some (Node n)) o is = cc
allocated Free true (Some (Leaf n)) o is = cc
allocated Free true (Some (Span n)) o is = cc
allocated Free false None o is = is
allocated Free false (Some Root) o is = cc
allocated Free false (Some ShadowRoot) o is = cc
allocated Free false (Some (Node n)) o is = cc
allocated Free false (Some (Leaf n)) o is = cc
allocated Free false (Some (Span n)) o is = cc
allocated Allocated true None o is = cc
allocated Allocated true (Some Root) o is = is
allocated Allocated true (Some ShadowRoot) o is = cc
allocated Allocated true (Some (Node n)) o is = cc
allocated Allocated true (Some (Leaf n)) o is = cc
allocated Allocated true (Some (Span n)) o is = cc
allocated IntendAllocate true None o is = cc
allocated IntendAllocate true (Some Root) o is = is
allocated IntendAllocate true (Some ShadowRoot) o is = cc
allocated IntendAllocate true (Some (Node n)) o is = cc
allocated IntendAllocate true (Some (Leaf n)) o is = cc
allocated IntendAllocate true (Some (Span n)) o is = cc
allocated IntendAllocate false None o is = cc
allocated IntendAllocate false (Some Root) o is = is
allocated IntendAllocate false (Some ShadowRoot) o is = is
allocated IntendAllocate false (Some (Node n)) o is = is
allocated IntendAllocate false (Some (Leaf n)) o is = is
allocated IntendAllocate false (Some (Span n)) o is = is
allocated IntendDeallocate true None o is = cc
allocated IntendDeallocate true (Some Root) o is = cc
allocated IntendDeallocate true (Some ShadowRoot) o is = cc
allocated IntendDeallocate true (Some (Node n)) o is = cc
allocated IntendDeallocate true (Some (Leaf n)) o is = cc
allocated IntendDeallocate true (Some (Span n)) o is = cc
allocated IntendDeallocate false None o is = cc
allocated IntendDeallocate false (Some Root) o is = cc
allocated IntendDeallocate false (Some ShadowRoot) o is = cc
allocated IntendDeallocate false (Some (Node n)) o is = is
allocated IntendDeallocate false (Some (Leaf n)) o is = is
allocated IntendDeallocate false (Some (Span n)) o is = is

pub tidied_entry : (fixed held : Bool) (e : MapEntry) → IsEntry e → IsEntry (tidied fixed held e)
tidied_entry true held e is = is
tidied_entry false true e is = record { in_table = allocated e.state e.committed e.place e.owner is.in_table }
tidied_entry false false e is = record { in_table = refl }
