-- A request without where it lies in memory.
use Rattle.kv_base.specs.declared.request.Request.{Request}
use Rattle.kv_base.specs.declared.request.Request.TheVariants.{Put, Get, Delete, Flush, After}
use Rattle.kv_frames.specs.declared.view.RequestView.{RequestView}
use Rattle.kv_frames.specs.declared.view.RequestView.TheVariants as view

-- the request that is seen
abbrev pub request_of : RequestView → Request
request_of (view.Put key value) = Put key.now value.now
request_of (view.Get key) = Get key.now
request_of (view.Delete key) = Delete key.now
request_of view.Flush = Flush
request_of (view.After stamp) = After stamp
