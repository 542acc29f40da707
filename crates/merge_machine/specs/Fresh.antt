-- Rings that nothing has passed through yet.
use Rattle.std.specs.Prelude.{◌≡◌, ℕ, []}
use Rattle.share_rings.specs.declared.merger_end.MergerEnd.{MergerEnd}
use Rattle.share_rings.specs.declared.port.Port.{Port}
use Rattle.share_rings.specs.Ends.{port_sent, port_got, port_known, port_capacity, end_taken, end_given, end_known, end_free, end_capacity}

module _ {A : Type 0} where
  -- a port of rings of this capacity that has sent and received nothing
  pub record IsFreshPort (capacity : ℕ) (p : Port A) : Type 0 where
    pub sent : port_sent p ≡ []
    pub got : port_got p ≡ []
    pub known : port_known p ≡ []
    pub capacity_is : port_capacity p ≡ capacity

  -- a merger's end of rings of this capacity that has taken and given nothing, and knows all slots for verdicts to be free
  pub record IsFreshEnd (capacity : ℕ) (e : MergerEnd A) : Type 0 where
    pub taken : end_taken e ≡ []
    pub given : end_given e ≡ []
    pub known : end_known e ≡ []
    pub free : end_free e ≡ capacity
    pub capacity_is : end_capacity e ≡ capacity
