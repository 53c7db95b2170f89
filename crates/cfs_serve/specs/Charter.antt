-- What is fixed when a service is made.
use Rattle.std.specs.Prelude.{ℕ, List, [], Option, None}
use Rattle.cfs_base.specs.declared.identifier.Puid.{Puid}
use Rattle.cfs_base.specs.Outside.{Intake}

-- the request lines of a session, and what is known of its sink
pub record Client : Type 0 where
  pub lines : List (List ℕ)
  pub sink : Intake

-- The server as it was handed in, which tells the graphs on which it began; its seed, and the cylinders of its disk;
-- the root index, which each session knows; how many collections are called for; and the sessions.
pub record Terms (A : Type 0) : Type 0 where
  pub began : Option A
  pub seed : ℕ
  pub cylinders : ℕ
  pub root : Puid
  pub collections : ℕ
  pub clients : List Client

abbrev pub nothing : {A : Type 0} → Terms A
nothing = record {
  began = None;
  seed = 0;
  cylinders = 0;
  root = record { block = 2; word = 0 };
  collections = 0;
  clients = [];
}
