pub use Rattle.seats.proofs as Seats
