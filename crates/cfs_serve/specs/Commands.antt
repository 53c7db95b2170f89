-- What a command asks for, in the words of the definitions.
use Rattle.std.specs.Prelude.{map, string_bytes, true, false, Option, Some, None}
use Rattle.cfs_serve.specs.declared.command.Command.{Command}
use Rattle.cfs_serve.specs.declared.command.Command.TheVariants as commands
use Rattle.cfs_serve.specs.declared.command.Converse as talks
use Rattle.cfs_serve.specs.declared.command.Dirs as dirs
use Rattle.cfs_serve.specs.declared.command.Format as formats
use Rattle.cfs_serve.specs.declared.command.Play.{Play}
use Rattle.cfs_serve.specs.declared.command.Serve.{Serve}
use Rattle.cfs_serve.specs.declared.command.Spin as spins
use Rattle.cfs_serve.specs.Words.{Asked, Audits, Conversation, Converses, Dirs, Format, Formats, InFile, InMemory}
use Rattle.cfs_serve.specs.Words.{Inspects, NamesService, Nothing, Serves, Service, Shows, Spin, Spins, files_in}

abbrev pub format_of : formats.Format → Format
format_of f = record { volume = f.volume.now; cylinders = f.cylinders; seed = f.seed; pair = f.pair }

abbrev pub played_service : Play → Service
played_service p = record {
  volume = InMemory p.cylinders;
  seed = p.seed;
  collections = p.collections;
  sessions = files_in (map string_bytes p.files.now);
  traced = p.traced;
}

abbrev pub served_service : Serve → Service
served_service s = record {
  volume = InFile s.volume.now s.pair;
  seed = s.seed;
  collections = s.collections;
  sessions = files_in (map string_bytes s.files.now);
  traced = false;
}

abbrev pub spin_of : spins.Spin → Spin
spin_of s = record { cylinders = s.cylinders; seed = s.seed; count = s.count }

abbrev pub names_service : dirs.Dirs → NamesService
names_service d = record { volume = d.volume.now; seed = d.seed; input = d.input.now; output = d.output.now }

abbrev pub conversation : talks.Converse → Conversation
conversation t = record {
  volume = t.volume.now;
  seed = t.seed;
  every = t.every;
  input = t.input.now;
  output = t.output.now;
}

abbrev pub asked_of : Option Command → Asked
asked_of (Some (commands.Page page)) = Shows page
asked_of (Some (commands.Format format)) = Formats (format_of format)
asked_of (Some (commands.Audit trail)) = Audits trail.now
asked_of (Some (commands.Check volume)) = Inspects (record { volume = volume.now; mends = false })
asked_of (Some (commands.Mend volume)) = Inspects (record { volume = volume.now; mends = true })
asked_of (Some (commands.Play play)) = Serves (played_service play)
asked_of (Some (commands.Spin spin)) = Spins (spin_of spin)
asked_of (Some (commands.Serve serve)) = Serves (served_service serve)
asked_of (Some (commands.Dirs dirs)) = Dirs (names_service dirs)
asked_of (Some (commands.Converse talk)) = Converses (conversation talk)
asked_of None = Nothing
