-- The names of types and of other crates that more than one file of these definitions uses.
pub use Rattle.insn.specs.Word.{seen, word_holds, int_width, holds_in, unary_result, word_result, word_extended, result_in, swap_width, extend_width}
pub use Rattle.insn.specs.declared.operation.BinOp.{BinOp}
pub use Rattle.insn.specs.declared.operation.BinOp.TheVariants.{Div, Sdiv, Lsh, Rsh, Mod, Smod, Arsh, Add}
pub use Rattle.insn.specs.declared.operation.Cond.{Cond}
pub use Rattle.insn.specs.declared.operation.Cond.TheVariants.{Eq, Ne, Gt, Ge, Set, Sgt, Sge, Lt, Le, Slt, Sle}
pub use Rattle.insn.specs.declared.operation.UnOp.{UnOp}
pub use Rattle.insn.specs.declared.operation.Width.{Width}
pub use Rattle.insn.specs.declared.operation.Width.TheVariants.{W64, W32}
