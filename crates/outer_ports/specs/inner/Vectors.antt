-- What examples compute.
unfoldable pub use Rattle.std.specs.Fmt.{digits}
