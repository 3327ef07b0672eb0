-- The messages of the errors that end a run.
use Rattle.std.specs.Prelude.{ℕ, List, codes}
use Rattle.base62_cli.specs.declared.fault.ToolFault.{ToolFault}
use Rattle.base62_cli.specs.declared.fault.ToolFault.TheVariants.{Read, Write, Memory}

-- the message of an error
unfoldable pub tool_fault_text : ToolFault → List ℕ
tool_fault_text Read = codes "base62_cli: read failed"
tool_fault_text Write = codes "base62_cli: write failed"
tool_fault_text Memory = codes "base62_cli: out of memory"
