-- A disk on which every file is empty.
use Rattle.std.specs.Prelude.{◌≡◌, ℕ, [], Option, Some, None}
use Rattle.std.proofs.Common.{sym, ap}
use Rattle.edge_traits.specs.Disk.{Image}

abbrev pub no_files : Image
no_files = λ _. []

abbrev content_in : Option Image → Image
content_in (Some files) = files
content_in None = no_files

pub no_file_has_more : (files : Image) → Some no_files ≡ Some files → (file : ℕ) → files file ≡ []
no_file_has_more files told file = sym (ap (λ o. content_in o file) told)
