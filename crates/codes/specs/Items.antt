-- What a list of register codes holds.
pub use Rattle.fixed_list.specs.Items.{items}
