use Rattle.device_read.proofs.Readings.{pages_read, whole_pages}
use Rattle.device_read.proofs.laws.readers_have_pages.Goals as goal

pub returns : goal.returns
returns c bytes content h place t reader reads at =
    let are = pages_read bytes content h place t (c.what_is_read_is_regular.ensures bytes content reads) reader reads at in
    (are.pages, whole_pages bytes content h place t.number are)
