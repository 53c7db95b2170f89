-- What is known of a stream.
use Rattle.cfs_host.specs.declared.stream.Stream.{Stream}
use Rattle.cfs_host.specs.declared.stream.Stream.TheVariants.{File, Standard}

-- what is known of the file, or of the standard stream in its place
abbrev pub of_stream : {F S K : Type 0} → (F → K) → (S → K) → Stream F S → K
of_stream of_file of_standard (File f) = of_file f
of_stream of_file of_standard (Standard s) = of_standard s
