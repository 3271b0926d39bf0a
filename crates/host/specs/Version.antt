-- The version of the interface that hosts are compiled for.
use Rattle.std.specs.Prelude.{ℕ}

-- 1 had no version to ask for
abbrev pub interface_version : ℕ
interface_version = 8
